-- The lowest label that dominates each of a list.
use Rattle.std.specs.Prelude.{◌≡◌, true, List, [], All, fold}
use Rattle.orders.specs.Order.{Order}

module _ {L : Type 0} (order : Order L) where
  -- the label dominates each of the list
  abbrev pub Bounds : List L → L → Type 0
  Bounds xs bound = All (λ x. order.dominance bound x ≡ true) xs

  -- and every label that does so dominates it
  pub record LowestBound (xs : List L) (bound : L) : Type 0 where
    pub bounds : Bounds xs bound
    pub lowest : (other : L) → Bounds xs other → order.dominance other bound ≡ true
    pub empty : xs ≡ [] → bound ≡ order.low

  -- the joins of a list, from LOW on
  abbrev pub gathered : List L → L
  gathered xs = fold order.join order.low xs
