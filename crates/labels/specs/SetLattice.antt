-- The sets of k bits are a lattice under inclusion.
use Rattle.std.specs.Prelude.{◌≡◌, ℕ, ◌-◌, ◌/◌, ◌%◌, ◌^◌, ◌<◌, min, max, true, bit_and, bit_or, refl}
use Rattle.std.proofs.Common.{sym, ap, ◌∙◌, mod-eq_of_lt, arith, pow_pos}
use Rattle.std.proofs.Math.Arith.{bin_ind}
use Rattle.std.specs.Int.Bits.{and_step, or_step, and_self, and_zero_r, and_lt}
use Rattle.std.proofs.lemmas.Nat.{and_shr, or_shr, and_comm, or_comm, and_assoc, and_or_self, and_mask, or_lt}
use Rattle.std.proofs.lemmas.Bool.{eqb-true, eq-eqb}
use Rattle.orders.specs.Order.{Order, Lattice}
use Rattle.labels.specs.Sets.{contains}

-- two numbers with the same half and the same last bit are equal
by_bits : (a b : ℕ) → a / 2 ≡ b / 2 → a % 2 ≡ b % 2 → a ≡ b
by_bits a b half last = omega arith

and_last : (a b : ℕ) → bit_and a b % 2 ≡ min (a % 2) (b % 2)
and_last a b = omega (arith, and_step a b)

or_last : (a b : ℕ) → bit_or a b % 2 ≡ max (a % 2) (b % 2)
or_last a b = omega (arith, or_step a b)

and_half : (a b : ℕ) → bit_and a b / 2 ≡ bit_and (a / 2) (b / 2)
and_half a b = and_shr a b 1

or_half : (a b : ℕ) → bit_or a b / 2 ≡ bit_or (a / 2) (b / 2)
or_half a b = or_shr a b 1

and_over_or : (a b c : ℕ) → bit_and a (bit_or b c) ≡ bit_or (bit_and a b) (bit_and a c)
and_over_or =
    bin_ind (λ (n : ℕ). (b c : ℕ) → bit_and n (bit_or b c) ≡ bit_or (bit_and n b) (bit_and n c)) (λ b c. refl)
    (λ n ih b c. by_bits _ _ (simp (and_half, or_half) (ih (b / 2) (c / 2))) (simp (and_last, or_last) (omega arith)))

absorbs_left : (a b : ℕ) → bit_and (bit_or a b) a ≡ a
absorbs_left a b = ap (λ n. bit_and n a) (or_comm a b) ∙ and_or_self a b

module _ (a b : ℕ) where
  pub into : bit_and a b ≡ b → contains a b ≡ true
  unfolding contains
  into e = eq-eqb (bit_and a b) b e

  pub out : contains a b ≡ true → bit_and a b ≡ b
  unfolding contains
  out e = eqb-true (bit_and a b) b e

abbrev pub set_order : ℕ → Order ℕ
set_order k = record { proper = λ n. n < 2 ^ k; dominance = contains; join = bit_or; meet = bit_and; low = 0; high = 2 ^ k - 1 }

pub sets : (k : ℕ) → Lattice (set_order k)
sets k = record {
  reflexive = λ x. into x x (and_self x);
  transitive = λ x y z p q.
      into x z (ap (bit_and x) (sym (out y z q)) ∙ sym (and_assoc z x y) ∙ ap (λ n. bit_and n z) (out x y p) ∙ out y z q);
  antisymmetric = λ x y p q. sym (out y x q) ∙ and_comm y x ∙ out x y p;
  join_left = λ x y. into (bit_or x y) x (absorbs_left x y);
  join_right = λ x y. into (bit_or x y) y (and_or_self y x);
  join_lowest = λ x y z p q. into z (bit_or x y) (and_over_or z x y ∙ ap (λ n. bit_or n (bit_and z y)) (out z x p) ∙ ap (bit_or x) (out z y q));
  meet_left = λ x y. into x (bit_and x y) (sym (and_assoc y x x) ∙ ap (λ n. bit_and n y) (and_self x));
  meet_right = λ x y. into y (bit_and x y) (and_comm y (bit_and x y) ∙ and_assoc y x y ∙ ap (bit_and x) (and_self y));
  meet_highest = λ x y z p q. into (bit_and x y) z (and_assoc z x y ∙ ap (bit_and x) (out y z q) ∙ out x z p);
  above_low = λ x. into x 0 (and_zero_r x);
  below_high = λ x h. into (2 ^ k - 1) x (and_comm (2 ^ k - 1) x ∙ and_mask x k ∙ mod-eq_of_lt h);
  join_proper = λ x y p q. or_lt k x y p q;
  meet_proper = λ x y p q. and_lt k x y p q;
  low_proper = pow_pos k;
  high_proper = omega (arith, pow_pos k);
}
