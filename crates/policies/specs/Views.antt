-- Policies made of another: the one that has flow the other way round, and the one that keeps its marks in another form.
use Rattle.std.specs.Prelude.{Ok, Err, Result}
use Rattle.policies.specs.Kinds.{reversed}
use Rattle.policies.specs.Model.{Model}
use Rattle.policies.specs.declared.verdicts.Decision.{Decision}

-- flow is the reverse, the clearances change places, and a read is decided as a write and a write as a read
abbrev pub reversed_model : {L M : Type 0} → Model L M → Model L M
reversed_model model = record {
  flow = λ a b. model.flow b a;
  read_admits = model.write_admits;
  write_admits = model.read_admits;
  clearance = model.clearance;
  in_order = model.in_order;
  readable = model.writable;
  writable = model.readable;
  start = model.start;
  decide = λ m o k. model.decide m o (reversed k);
}

abbrev pub map_ok : {A B E : Type 0} → (A → B) → Result A E → Result B E
map_ok f (Ok a) = Ok (f a)
map_ok f (Err e) = Err e

abbrev pub map_marks : {A B : Type 0} → (A → B) → Decision A → Decision B
map_marks f d = record { verdict = d.verdict; marks = f d.marks }

-- `view` is what the policy sees of the marks, `put` changes that, and `begin` makes the first marks
abbrev pub kept_model : {L M W : Type 0} → Model L W → (M → W) → (M → W → M) → (W → M) → Model L M
kept_model model view put begin = record {
  flow = model.flow;
  read_admits = model.read_admits;
  write_admits = model.write_admits;
  clearance = λ m. model.clearance (view m);
  in_order = λ m. model.in_order (view m);
  readable = λ m. model.readable (view m);
  writable = λ m. model.writable (view m);
  start = λ c s. map_ok begin (model.start c s);
  decide = λ m o k. map_ok (map_marks (put m)) (model.decide (view m) o k);
}
