-- A word, by the length and the octets of its text.
use Rattle.std.proofs.Common.{◌≡◌, ℕ, suc, Bool, true, ◌&&◌, eqb, List, [], ◌∷◌, length, get_or, codes, refl, arith}
use Rattle.std.specs.Str.{bytes_eq}
use Rattle.std.proofs.lemmas.Bool.Decides.{nat_tests}
use Rattle.records.specs.Words.{says}

-- the octets of the word stand in the text, from place i on
abbrev pub reads : List ℕ → ℕ → List ℕ → Bool
reads xs i [] = true
reads xs i (c ∷ word) = eqb (get_or xs i 0) c && reads xs (suc i) word

abbrev pub spells : List ℕ → List ℕ → Bool
spells xs word = eqb (length xs) (length word) && reads xs 0 word

reads_later : (x : ℕ) (xs word : List ℕ) (i : ℕ) → reads (x ∷ xs) (suc i) word ≡ reads xs i word
reads_later x xs [] i = refl
reads_later x xs (c ∷ word) i = rw (reads_later x xs word (suc i))

by_octets : (xs word : List ℕ) → bytes_eq xs word ≡ spells xs word
by_octets [] [] = refl
by_octets [] (c ∷ word) = grind (arith, nat_tests)
by_octets (x ∷ xs) [] = grind (arith, nat_tests)
by_octets (x ∷ xs) (c ∷ word) = rw (by_octets xs word, reads_later x xs word 0) (grind (arith, nat_tests))

says_by_octets : (xs word : List ℕ) → says xs word ≡ spells xs word
unfolding says
says_by_octets = by_octets

-- the long words and the names of policies, their octets written out: `grind` takes a letter's code for an unknown
pub says_policy : (xs : List ℕ) → says xs (codes "policy") ≡ spells xs (112 ∷ (111 ∷ (108 ∷ (105 ∷ (99 ∷ (121 ∷ []))))))
says_policy xs = says_by_octets xs (codes "policy")

pub says_object : (xs : List ℕ) → says xs (codes "object") ≡ spells xs (111 ∷ (98 ∷ (106 ∷ (101 ∷ (99 ∷ (116 ∷ []))))))
says_object xs = says_by_octets xs (codes "object")

pub says_session : (xs : List ℕ) → says xs (codes "session") ≡ spells xs (115 ∷ (101 ∷ (115 ∷ (115 ∷ (105 ∷ (111 ∷ (110 ∷ [])))))))
says_session xs = says_by_octets xs (codes "session")

pub says_confidentiality : (xs : List ℕ) → says xs (codes "confidentiality") ≡ spells xs (99 ∷ (111 ∷ (110 ∷ (102 ∷ (105 ∷ (100 ∷ (101 ∷ (110 ∷ (116 ∷ (105 ∷ (97 ∷ (108 ∷ (105 ∷ (116 ∷ (121 ∷ [])))))))))))))))
says_confidentiality xs = says_by_octets xs (codes "confidentiality")

pub says_integrity : (xs : List ℕ) → says xs (codes "integrity") ≡ spells xs (105 ∷ (110 ∷ (116 ∷ (101 ∷ (103 ∷ (114 ∷ (105 ∷ (116 ∷ (121 ∷ [])))))))))
says_integrity xs = says_by_octets xs (codes "integrity")

pub ruleset long_words = (says_policy, says_object, says_session)

pub ruleset policy_names = (says_confidentiality, says_integrity)
