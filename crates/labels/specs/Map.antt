-- The map of a label's categories: thirty octets, of which the label's words are the big-endian values.
use Rattle.std.specs.Prelude.{◌≡◌, ℕ, ◌+◌, ◌-◌, ◌*◌, ◌/◌, ◌%◌, ◌^◌, ◌<◌, Bool, List, [], ◌∷◌, ◌++◌, ◌==◌, slice_index}
use Rattle.labels.specs.declared.grades.GradeLabel.{GradeLabel}

-- the octets of a word, high octet first
abbrev pub eight : ℕ → List ℕ
eight w = (w / 72057594037927936 % 256) ∷ (w / 281474976710656 % 256) ∷ (w / 1099511627776 % 256) ∷ (w / 4294967296 % 256)
    ∷ (w / 16777216 % 256) ∷ (w / 65536 % 256) ∷ (w / 256 % 256) ∷ (w % 256) ∷ []

abbrev pub four : ℕ → List ℕ
four w = (w / 16777216 % 256) ∷ (w / 65536 % 256) ∷ (w / 256 % 256) ∷ (w % 256) ∷ []

abbrev pub two : ℕ → List ℕ
two w = (w / 256 % 256) ∷ (w % 256) ∷ []

-- shut, since it would compute to thirty octets in every goal
unfoldable pub map_of : GradeLabel → List ℕ
map_of l = eight l.map0 ++ (eight l.map8 ++ (eight l.map16 ++ (four l.map24 ++ two l.map28)))

-- category n is in a map: the bit 128 >> (n % 8) of octet n / 8
abbrev pub in_map : List ℕ → ℕ → Bool
in_map m n = slice_index m (n / 8) / 2 ^ (7 - n % 8) % 2 == 1

-- the label has category n
abbrev pub has : GradeLabel → ℕ → Bool
has l n = in_map (map_of l) n

-- these are the n octets of a map from a place on, where an octet past the map's end is empty
abbrev pub AreOctets : List ℕ → ℕ → ℕ → List ℕ → Type 0
AreOctets m i n octets = (k : ℕ) → k < n → slice_index octets k ≡ slice_index m (i + k)

-- the word whose octets stand in a map from a place on, where an octet past the map's end is empty
abbrev pub be8 : List ℕ → ℕ → ℕ
be8 m i = slice_index m i * 72057594037927936 + slice_index m (i + 1) * 281474976710656 + slice_index m (i + 2) * 1099511627776
    + slice_index m (i + 3) * 4294967296 + slice_index m (i + 4) * 16777216 + slice_index m (i + 5) * 65536 + slice_index m (i + 6) * 256 + slice_index m (i + 7)

abbrev pub be4 : List ℕ → ℕ → ℕ
be4 m i = slice_index m i * 16777216 + slice_index m (i + 1) * 65536 + slice_index m (i + 2) * 256 + slice_index m (i + 3)

abbrev pub be2 : List ℕ → ℕ → ℕ
be2 m i = slice_index m i * 256 + slice_index m (i + 1)

-- the label of a grade and a map
abbrev pub label_of : ℕ → List ℕ → GradeLabel
label_of g m = record { map0 = be8 m 0; map8 = be8 m 8; map16 = be8 m 16; map24 = be4 m 24; map28 = be2 m 28; grade = g }
