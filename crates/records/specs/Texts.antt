-- What the text of a field says: a number, or a label.
use Rattle.std.specs.Prelude.{ℕ, ◌+◌, ◌-◌, ◌*◌, Bool, cond, not, ◌&&◌, ◌||◌, List, [], ◌∷◌, ◌++◌, length, Some, None, Ok, Err, Option, Result, ◌==◌, nat_le, nat_lt, slice_index}
use Rattle.labels.specs.declared.grades.GradeLabel.{GradeLabel}
use Rattle.tags.specs.Tag.{tag_of}
use Rattle.faults.specs.declared.layers.NumberFault.{NumberFault}
use Rattle.faults.specs.declared.layers.Base16Fault.{Base16Fault}
use Rattle.faults.specs.declared.layers.FieldCause.{FieldCause}
use Rattle.faults.specs.declared.layers.FieldCause.TheVariants.{Word, Number, Base16, Tag}
use Rattle.faults.specs.declared.layers.FieldFault.{FieldFault}
use Rattle.faults.specs.Faults.{passed, at_field}

abbrev pub digit : ℕ → Bool
digit c = nat_le 48 c && nat_le c 57

-- a number read on from octet i, after digits of value v
abbrev pub digits_from : ℕ → ℕ → List ℕ → Result ℕ NumberFault
digits_from v i [] = Ok v
digits_from v i (c ∷ cs) = cond (i == 5 || not (digit c)) (Err (record { octet = i })) (digits_from (v * 10 + (c - 48)) (i + 1) cs)

-- a number of one to five digits, with no needless zero in front
abbrev pub number_of : List ℕ → Result ℕ NumberFault
number_of xs = cond (length xs == 0 || (nat_lt 1 (length xs) && slice_index xs 0 == 48)) (Err (record { octet = 0 })) (digits_from 0 0 xs)

-- the number in field n of a record
abbrev pub number_field : List ℕ → ℕ → Result ℕ FieldFault
number_field xs n = passed (number_of xs) (λ f. at_field n (Number f)) (λ v. Ok v)

-- a Base 16 digit in upper case
abbrev pub is_hex : ℕ → Bool
is_hex c = digit c || (nat_le 65 c && nat_le c 70)

abbrev pub hex_value : ℕ → ℕ
hex_value c = cond (nat_le c 57) (c - 48) (c - 55)

abbrev pub hex_digit : ℕ → Option ℕ
hex_digit c = cond (is_hex c) (Some (hex_value c)) None

-- the octets that pairs of digits stand for, read on from octet `at` of the text, after those that are done
abbrev pub base16 : ℕ → List ℕ → List ℕ → Result (List ℕ) Base16Fault
base16 at done [] = Ok done
base16 at done (a ∷ []) = Err (record { octet = at })
base16 at done (a ∷ (b ∷ rest)) =
    cond (is_hex a)
    (cond (is_hex b) (base16 (at + 2) (done ++ ((hex_value a * 16 + hex_value b) ∷ [])) rest) (Err (record { octet = at + 1 })))
    (Err (record { octet = at }))

-- the label of one tag that fills all octets
abbrev pub only_tag : List ℕ → Result GradeLabel FieldCause
only_tag xs = passed (tag_of xs) Tag (λ p. cond (nat_lt p.1 (length xs)) (Err (Tag (record { octet = p.1 }))) (Ok p.0))

-- the label of a tag in Base 16
abbrev pub written_label : List ℕ → Result GradeLabel FieldCause
written_label text = cond (nat_lt 256 (length text)) (Err (Base16 (record { octet = 256 }))) (passed (base16 0 [] text) Base16 only_tag)

-- a fault of the tag stays with field n, and any other is passed up
abbrev pub kept_fault : ℕ → Result GradeLabel FieldCause → Result (Result GradeLabel FieldFault) FieldFault
kept_fault n (Ok l) = Ok (Ok l)
kept_fault n (Err Word) = Err (at_field n Word)
kept_fault n (Err (Number f)) = Err (at_field n (Number f))
kept_fault n (Err (Base16 f)) = Err (at_field n (Base16 f))
kept_fault n (Err (Tag f)) = Ok (Err (at_field n (Tag f)))

-- the label in field n of a record
abbrev pub label_field : List ℕ → ℕ → Result (Result GradeLabel FieldFault) FieldFault
label_field text n = kept_fault n (written_label text)
