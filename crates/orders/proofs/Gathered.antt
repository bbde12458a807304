-- The joins of a list are the lowest label that dominates each of it.
use Rattle.std.proofs.Common.{◌≡◌, true, List, [], ◌∷◌, fold, ap}
use Rattle.std.proofs.lemmas.List.Elements.{All-nil, All-cons, All-head, All-tail}
use Rattle.orders.specs.Order.{Order, Lattice}
use Rattle.orders.specs.Bounds.{Bounds, LowestBound, gathered}

module _ {L : Type 0} {order : Order L} (lattice : Lattice order) where
  -- what is joined so far is dominated from then on
  above_start : (start : L) (xs : List L) → order.dominance (fold order.join start xs) start ≡ true
  above_start start [] = lattice.reflexive start
  above_start start (x ∷ xs) =
      lattice.transitive _ (order.join start x) start (above_start (order.join start x) xs) (lattice.join_left start x)

  bounds : (start : L) (xs : List L) → Bounds order xs (fold order.join start xs)
  bounds start [] = All-nil (λ x. order.dominance start x ≡ true)
  bounds start (x ∷ xs) =
      let next = order.join start x in
      All-cons (λ y. order.dominance (fold order.join next xs) y ≡ true) x xs
      (lattice.transitive _ next x (above_start next xs) (lattice.join_right start x)) (bounds next xs)

  lowest : (start : L) (xs : List L) (other : L) → order.dominance other start ≡ true → Bounds order xs other
      → order.dominance other (fold order.join start xs) ≡ true
  lowest start [] other h b = h
  lowest start (x ∷ xs) other h b =
      let bounded : L → Type 0 = λ y. order.dominance other y ≡ true in
      lowest (order.join start x) xs other (lattice.join_lowest start x other h (All-head bounded x xs b)) (All-tail bounded x xs b)

  pub gathered_lowest : (xs : List L) → LowestBound order xs (gathered order xs)
  gathered_lowest xs = record {
    bounds = bounds order.low xs;
    lowest = λ other b. lowest order.low xs other (lattice.above_low other) b;
    empty = ap (gathered order);
  }
