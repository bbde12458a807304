-- The octets of a tag, and the label that they stand for.
use Rattle.std.specs.Prelude.{◌≡◌, ℕ, ◌+◌, ◌-◌, ◌*◌, ◌/◌, ◌%◌, ◌^◌, ◌<◌, Bool, false, cond, not, ◌&&◌, ◌||◌, List, [], ◌∷◌, length, take, drop, replicate, Ok, Err, Result, ◌==◌, bit_or, nat_lt, slice_index, slice_set}
use Rattle.labels.specs.Map.{label_of, has, in_map}
use Rattle.labels.specs.declared.grades.GradeLabel.{GradeLabel}
use Rattle.tags.specs.declared.faults.TagFault.{TagFault}
use Rattle.tags.specs.declared.reader.TagType.{TagType}
use Rattle.tags.specs.declared.reader.TagType.TheVariants.{Map, List as Listing}

-- a map with no category
abbrev pub empty : List ℕ
empty = replicate 30 0

-- a map with category n put in: the bit 128 >> (n % 8) of octet n / 8
abbrev pub marked : List ℕ → ℕ → List ℕ
marked m n = slice_set m (n / 8) (bit_or (slice_index m (n / 8)) (128 / 2 ^ (n % 8)))

abbrev pub fault : {X : Type 0} → ℕ → Result X TagFault
fault n = Err (record { octet = n })

-- the label of a list of categories, read on from octet `at` of the tag: m has the categories before it, and `least` is the
-- least that may come next
abbrev pub list_of : ℕ → List ℕ → ℕ → ℕ → List ℕ → Result GradeLabel TagFault
list_of g m least at [] = Ok (label_of g m)
list_of g m least at (high ∷ []) = Ok (label_of g m)
list_of g m least at (high ∷ (low ∷ rest)) =
    cond (nat_lt (high * 256 + low) least || nat_lt 239 (high * 256 + low)) (fault at)
    (list_of g (marked m (high * 256 + low)) (high * 256 + low + 1) (at + 2) rest)

abbrev pub known_type : ℕ → Bool
known_type kind = kind == 1 || kind == 2

-- a length that no tag of this type has, or that goes past the input
abbrev pub wrong_length : ℕ → ℕ → ℕ → Bool
wrong_length kind whole input = nat_lt whole 4 || (nat_lt 34 whole || (nat_lt input whole || (kind == 2 && whole % 2 == 1)))

-- the octet of a type, and the type that an octet names
abbrev pub octet_of : TagType → ℕ
octet_of Map = 1
octet_of Listing = 2

abbrev pub type_of : ℕ → Result TagType TagFault
type_of n = cond (n == 1) (Ok Map) (cond (n == 2) (Ok Listing) (fault 0))

-- the length that octet 1 gives to a tag of a type, in an input of this length
abbrev pub length_of : TagType → ℕ → ℕ → Result ℕ TagFault
length_of kind whole input = cond (wrong_length (octet_of kind) whole input) (fault 1) (Ok whole)

-- a label, with the length of its tag
abbrev pub sized : ℕ → Result GradeLabel TagFault → Result (GradeLabel × ℕ) TagFault
sized whole (Ok l) = Ok (l, whole)
sized whole (Err f) = Err f

-- what stands after the head: a map in type 1, and a list in type 2
abbrev pub body_of : ℕ → ℕ → ℕ → List ℕ → Result (GradeLabel × ℕ) TagFault
body_of kind grade whole body = cond (kind == 1) (Ok (label_of grade body, whole)) (sized whole (list_of grade empty 0 4 body))

-- the label of the tag that octets begin with, and the tag's length; or the first octet that breaks a rule
abbrev pub tag_of : List ℕ → Result (GradeLabel × ℕ) TagFault
tag_of xs =
    cond (length xs == 0 || not (known_type (slice_index xs 0))) (fault 0)
    (cond (nat_lt (length xs) 4 || wrong_length (slice_index xs 0) (slice_index xs 1) (length xs)) (fault 1)
    (cond (slice_index xs 2 == 0) (body_of (slice_index xs 0) (slice_index xs 3) (slice_index xs 1) (take (slice_index xs 1 - 4) (drop 4 xs))) (fault 2)))

-- category n is among those that pairs of octets write
abbrev pub listed : List ℕ → ℕ → Bool
listed [] n = false
listed (high ∷ []) n = false
listed (high ∷ (low ∷ rest)) n = n == high * 256 + low || listed rest n

-- a list that is read has the categories that it writes, and no other
abbrev pub ListReads : Type 0
ListReads = (g : ℕ) (xs : List ℕ) (l : GradeLabel) → list_of g empty 0 4 xs ≡ Ok l → (l.grade ≡ g) × ((n : ℕ) → n < 240 → has l n ≡ listed xs n)

-- a map that is read has the categories whose bits it has, and no other
abbrev pub MapReads : Type 0
MapReads = (g : ℕ) (xs : List ℕ) → ((k : ℕ) → slice_index xs k < 256) → ((label_of g xs).grade ≡ g) × ((n : ℕ) → n < 240 → has (label_of g xs) n ≡ in_map xs n)
