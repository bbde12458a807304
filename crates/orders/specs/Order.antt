-- What a label order is: a lattice of labels under dominance.
use Rattle.std.specs.Prelude.{◌≡◌, Bool, true}

-- The functions of an order. In the logic a number has no bound, so a term of a label's type need not be a label that
-- a program can hold: `proper` says that it is, each of its numbers within its width.
pub record Order (L : Type 0) : Type 1 where
  pub proper : L → Type 0
  pub dominance : L → L → Bool
  pub join : L → L → L
  pub meet : L → L → L
  pub low : L
  pub high : L

pub record Lattice {L : Type 0} (order : Order L) : Type 0 where
  -- dominance is a partial order
  pub reflexive : (x : L) → order.dominance x x ≡ true
  pub transitive : (x y z : L) → order.dominance x y ≡ true → order.dominance y z ≡ true → order.dominance x z ≡ true
  pub antisymmetric : (x y : L) → order.dominance x y ≡ true → order.dominance y x ≡ true → x ≡ y
  -- the join is the lowest label that dominates both
  pub join_left : (x y : L) → order.dominance (order.join x y) x ≡ true
  pub join_right : (x y : L) → order.dominance (order.join x y) y ≡ true
  pub join_lowest : (x y z : L) → order.dominance z x ≡ true → order.dominance z y ≡ true → order.dominance z (order.join x y) ≡ true
  -- the meet is the highest label that both dominate
  pub meet_left : (x y : L) → order.dominance x (order.meet x y) ≡ true
  pub meet_right : (x y : L) → order.dominance y (order.meet x y) ≡ true
  pub meet_highest : (x y z : L) → order.dominance x z ≡ true → order.dominance y z ≡ true → order.dominance (order.meet x y) z ≡ true
  -- every label dominates LOW, and HIGH dominates every label
  pub above_low : (x : L) → order.dominance x order.low ≡ true
  pub below_high : (x : L) → order.proper x → order.dominance order.high x ≡ true
  -- what is made of labels is a label
  pub join_proper : (x y : L) → order.proper x → order.proper y → order.proper (order.join x y)
  pub meet_proper : (x y : L) → order.proper x → order.proper y → order.proper (order.meet x y)
  pub low_proper : order.proper order.low
  pub high_proper : order.proper order.high
