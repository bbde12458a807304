-- Two policies at once: what both grant, of pairs of labels and with pairs of marks.
use Rattle.std.specs.Prelude.{◌&&◌, Ok, Err, Result}
use Rattle.orders.specs.Pairs.{pair}
use Rattle.orders.specs.declared.pairs.Pair.{Pair}
use Rattle.policies.specs.Model.{Model}
use Rattle.policies.specs.declared.verdicts.Verdict.{Verdict}
use Rattle.policies.specs.declared.verdicts.Verdict.TheVariants.{Granted, Clearance, History}
use Rattle.policies.specs.declared.verdicts.Decision.{Decision}

-- granted where both are, and else for want of clearance where either is denied for that
abbrev pub combined : Verdict → Verdict → Verdict
combined Granted v = v
combined Clearance v = Clearance
combined History Granted = History
combined History Clearance = Clearance
combined History History = History

-- only a grant moves marks
abbrev pub marks_after : {M : Type 0} → Verdict → (moved kept : M) → M
marks_after Granted moved kept = moved
marks_after Clearance moved kept = kept
marks_after History moved kept = kept

-- the decision of two, by what each decides of its part
abbrev pub both_decide : {M N : Type 0} → Pair M N → Decision M → Decision N → Decision (Pair M N)
both_decide marks d e = record {
  verdict = combined d.verdict e.verdict;
  marks = marks_after (combined d.verdict e.verdict) (pair d.marks e.marks) marks;
}

-- what is made of two results, or the refusal of the first that refuses
abbrev pub both_ok : {A B C E : Type 0} → (A → B → C) → Result A E → Result B E → Result C E
both_ok f (Ok a) (Ok b) = Ok (f a b)
both_ok f (Ok a) (Err e) = Err e
both_ok f (Err e) r = Err e

abbrev pub product_model : {A B M N : Type 0} → Model A M → Model B N → Model (Pair A B) (Pair M N)
product_model p q = record {
  flow = λ x y. p.flow x.first y.first && q.flow x.second y.second;
  read_admits = λ c l. p.read_admits c.first l.first && q.read_admits c.second l.second;
  write_admits = λ c l. p.write_admits c.first l.first && q.write_admits c.second l.second;
  clearance = λ m. pair (p.clearance m.first) (q.clearance m.second);
  in_order = λ m. p.in_order m.first && q.in_order m.second;
  readable = λ m l. p.readable m.first l.first && q.readable m.second l.second;
  writable = λ m l. p.writable m.first l.first && q.writable m.second l.second;
  start = λ c s. both_ok pair (p.start c.first s.first) (q.start c.second s.second);
  decide = λ m o k. both_ok (both_decide m) (p.decide m.first o.first k) (q.decide m.second o.second k);
}
