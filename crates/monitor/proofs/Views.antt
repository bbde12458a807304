-- A monitor that is made.
use Rattle.std.proofs.Common.{◌≡◌, ℕ, List, [], length, ap}
use Rattle.reference.specs.declared.entries.Entry.{Entry}
use Rattle.monitor.specs.View.{View, fresh}
use Rattle.monitor.specs.declared.tables.SessionRow.{SessionRow}

-- the parts of a monitor that is made
abbrev made : {L M : Type 0} → List L → ℕ → ℕ → List (SessionRow M) → List Entry → List (SessionRow M) → List Entry → View L M
made labels rows places sessions history spare blank = record {
  labels = labels;
  rows = rows;
  places = places;
  sessions = sessions;
  history = history;
  spare = spare;
  blank = blank;
}

pub fresh_from : {L M : Type 0} {l l' : List L} {n m : ℕ} {ss r r' sp : List (SessionRow M)} {h b p p' : List Entry}
    → l ≡ l' → r ≡ r' → p ≡ p' → n ≡ length r → m ≡ length p → ss ≡ [] → h ≡ [] → sp ≡ r → b ≡ p → made l n m ss h sp b ≡ fresh l' r' p'
fresh_from {r = r} {p = p} el er ep en em es eh espare eb = let x = ap length er in let y = ap length ep in cc
