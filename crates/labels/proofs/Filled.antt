-- What `array::from_fn` gives, by a closure that stays as it is.
use Rattle.std.proofs.Common.{◌≡◌, ℕ, zero, suc, ◌+◌, ◌<◌, ◌∙◌, List, slice_index_or, arith, subst}
use Rattle.std.specs.Array.{IsFromFnResultFrom}
use Rattle.std.specs.Fn.{Called}
use denote.Param.Members.{Mut}

module _ {F B : Type 0} (g : Mut F (ℕ × Unit {0}) B) (v : ℕ → B) (f : F) (ys : List B)
    (gives : (i : ℕ) (y : B) (f' : F) → Called g f (i, tt) y f' → (y ≡ v i) × (f' ≡ f)) where
  -- each of the n elements from i on is what the closure gives at its place
  pub filled : (n i : ℕ) → IsFromFnResultFrom g f ys i n → (k j : ℕ) (d : B) → j ≡ i + k → k < n → slice_index_or ys j d ≡ v j
  filled zero i h k j d is within = absurd (omega (arith, within))
  filled (suc n) i (q, y, here, call, rest) zero j d is within =
      let first : j ≡ i = omega (arith, is) in
      rw first (here.1 d ∙ (gives i y q call).0)
  filled (suc n) i (q, y, here, call, rest) (suc k) j d is within =
      filled n (i + 1) (subst (λ p. IsFromFnResultFrom g p ys (i + 1) n) (gives i y q call).1 rest) k j d (omega (arith, is)) (omega (arith, within))
