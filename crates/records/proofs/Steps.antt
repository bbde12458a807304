-- The steps of the fields' readers, over lists.
use Rattle.std.proofs.Common.{◌≡◌, ℕ, zero, suc, ◌+◌, ◌*◌, ◌/◌, ◌<◌, ◌≤◌, ◌⊎◌, inl, inr, List, [], ◌∷◌, ◌++◌, length, get_or, take, drop, Some, None, Option, Ok, Err, Result, refl, sym, ap, ◌∙◌, arith, length-drop}
use Rattle.std.specs.List.{position, position_from}
use Rattle.std.specs.Result.{MatchResult}
use Rattle.std.specs.Simd.{first_chunks}
use Rattle.std.proofs.lemmas.Iterator.Adapters.{position_from-zero}
use Rattle.std.proofs.lemmas.List.{drop_more, drop-drop}
use Rattle.std.proofs.lemmas.Bool.{cases_Bool}
use Rattle.std.proofs.lemmas.Bool.Decides.{nat_tests}
use Rattle.faults.specs.declared.layers.Base16Fault.{Base16Fault}
use Rattle.faults.specs.declared.layers.FieldCause.{FieldCause}
use Rattle.faults.specs.declared.layers.FieldFault.{FieldFault}
use Rattle.records.specs.Fields.{stray, stray_from}
use Rattle.records.specs.Texts.{digits_from, base16, is_hex, hex_digit}

-- the octet of a number at which its reading stops
pub digits_stop : (v i : ℕ) (xs : List ℕ) → i < length xs → (i ≡ 5) ⊎ ((get_or xs i 0 < 48) ⊎ (57 < get_or xs i 0))
    → digits_from v i (drop i xs) ≡ Err (record { octet = i })
digits_stop v i xs h w = rw (drop_more xs i 0 h) (grind (arith, nat_tests))

-- the search for a stray octet
stray_is : (i : ℕ) (xs : List ℕ) → stray_from i xs ≡ position_from stray i xs
stray_is i [] = refl
stray_is i (c ∷ cs) = rw (stray_is (i + 1) cs)

pub position_stray : (xs : List ℕ) → stray_from 0 xs ≡ position stray xs
position_stray xs = stray_is 0 xs ∙ sym (position_from-zero stray xs)

-- the pairs of digits
pairs_at : (k i : ℕ) (xs : List ℕ) → i < k → get_or (first_chunks 2 k xs) i [] ≡ take 2 (drop (2 * i) xs)
pairs_at zero i xs h = absurd (omega arith)
pairs_at (suc k) zero xs h = refl
pairs_at (suc k) (suc i) xs h =
    let low : i < k = omega arith in
    let far : 2 * suc i ≡ 2 + 2 * i = omega arith in
    rw far (pairs_at k i (drop 2 xs) low ∙ ap (λ (ys : List ℕ). take 2 ys) (drop-drop (2 * i) 2 xs))

-- Base 16 by what pair i stands for, after the octets that are done
abbrev pub by_pair : Option ℕ → Option ℕ → ℕ → List ℕ → List ℕ → Result (List ℕ) Base16Fault
by_pair None lower i done rest = Err (record { octet = 2 * i })
by_pair (Some u) None i done rest = Err (record { octet = 2 * i + 1 })
by_pair (Some u) (Some l) i done rest = base16 (2 * (i + 1)) (done ++ ((u * 16 + l) ∷ [])) rest

front_pair : (i at : ℕ) (done xs : List ℕ) → at ≡ 2 * i → 2 ≤ length xs
    → base16 at done xs ≡ by_pair (hex_digit (get_or (take 2 xs) 0 0)) (hex_digit (get_or (take 2 xs) 1 0)) i done (drop 2 xs)
front_pair i at done [] is h = absurd (omega arith)
front_pair i at done (a ∷ []) is h = absurd (omega arith)
front_pair i at done (a ∷ (b ∷ xs)) is h =
    let next : 2 * (i + 1) ≡ at + 2 = omega arith in
    elim (cases_Bool (is_hex a)) [
      | inl e ↦ elim (cases_Bool (is_hex b)) [ inl f ↦ rw (e, f, next) | inr f ↦ rw (e, f, is) ]
      | inr e ↦ rw (e, is)
    ]

pub pair_read : (text done : List ℕ) (i : ℕ) → i < length text / 2
    → base16 (2 * i) done (drop (2 * i) text)
    ≡ by_pair (hex_digit (get_or (get_or (first_chunks 2 (length text / 2) text) i []) 0 0)) (hex_digit (get_or (get_or (first_chunks 2 (length text / 2) text) i []) 1 0)) i done (drop (2 * (i + 1)) text)
pair_read text done i h =
    let long : 2 ≤ length (drop (2 * i) text) = omega (arith, length-drop (2 * i) text) in
    let after : drop 2 (drop (2 * i) text) ≡ drop (2 * (i + 1)) text = drop-drop 2 (2 * i) text ∙ ap (λ (n : ℕ). drop n text) (omega arith) in
    rw (pairs_at (length text / 2) i text h, front_pair i (2 * i) done (drop (2 * i) text) refl long, after)

-- a value that was passed on where a fault would have got its field
pub ok_from_map_err : {T : Type 0} (r : Result T FieldCause) (x : T) → MatchResult r (λ y. ◌≡◌ {A = Result T FieldFault} (Ok x) (Ok y)) (λ _. ⊥) → r ≡ Ok x
ok_from_map_err (Ok y) x e = let same : y ≡ x = cc in rw same
ok_from_map_err (Err f) x e = absurd e
