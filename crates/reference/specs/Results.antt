-- What a call answers and leaves, by what it found.
use Rattle.std.specs.Prelude.{ℕ, Bool, cond, Ok, Err, Result, nat_lt}

-- the finding, and what follows from its value
abbrev pub and_then : {A B E : Type 0} → Result A E → (A → Result B E) → Result B E
and_then (Ok x) f = f x
and_then (Err e) f = Err e

-- a finding whose refusal is passed on as another
abbrev pub refused_as : {A E F : Type 0} → (E → F) → Result A E → Result A F
refused_as f (Ok x) = Ok x
refused_as f (Err e) = Err (f e)

-- the refusal, unless the test holds
abbrev pub unless : {E : Type 0} → Bool → E → Result (Unit {0}) E
unless t e = cond t (Ok tt) (Err e)

-- fewer than all are in use
abbrev pub free : {E : Type 0} → (used all : ℕ) → E → Result (Unit {0}) E
free used all e = unless (nat_lt used all) e

-- the answer, and what is left, by what a call found: a refusal leaves everything as it was
abbrev pub answer : {X A E : Type 0} → (X → A) → Result X E → Result A E
answer f (Ok x) = Ok (f x)
answer f (Err e) = Err e

abbrev pub after : {X B E : Type 0} → (X → B) → B → Result X E → B
after f b (Ok x) = f x
after f b (Err e) = b
