-- A log as plain lists.
use Rattle.std.specs.Prelude.{ℕ, ◌+◌, List, length, Result}
use Rattle.reference.specs.Results.{free}
use Rattle.reference.specs.declared.entries.Entry.{Entry}
use Rattle.reference.specs.declared.refusals.Refusal.{Refusal}
use Rattle.reference.specs.declared.refusals.Refusal.TheVariants.{NoFreePlace}

-- the entries, the newest first, and what the places that are not in use hold
pub record Places : Type 0 where
  pub history : List Entry
  pub blank : List Entry

-- how many places there are
abbrev pub places_of : Places → ℕ
places_of l = length l.history + length l.blank

-- whether an entry finds a free place
abbrev pub next_place : Places → Result (Unit {0}) Refusal
next_place l = free (length l.history) (places_of l) NoFreePlace
