-- The lines of an input.
use Rattle.std.specs.Prelude.{◌≡◌, ℕ, ◌+◌, ◌<◌, Bool, true, false, cond, ◌&&◌, List, [], ◌∷◌, ◌++◌, length, ◌==◌, nat_lt, slice_index, MatchOption, Option}
use Rattle.batch.specs.declared.lines.Line.{Line}
use Rattle.batch.specs.declared.lines.Lines.{Lines}

-- CR LF
abbrev pub breaks : ℕ → ℕ → Bool
breaks x y = x == 13 && y == 10

-- a CR LF stands at a place
abbrev pub breaks_at : List ℕ → ℕ → Bool
breaks_at xs i = nat_lt (i + 1) (length xs) && breaks (slice_index xs i) (slice_index xs (i + 1))

-- the first CR LF stands at a place, or there is none
abbrev pub FirstBreak : List ℕ → ℕ → Type 0
FirstBreak xs i = (breaks_at xs i ≡ true) × ((k : ℕ) → k < i → breaks_at xs k ≡ false)

abbrev pub NoBreak : List ℕ → Type 0
NoBreak xs = (k : ℕ) → breaks_at xs k ≡ false

-- the lines of an input, where one has begun: a CR LF ends each, the input perhaps the last
abbrev pub lines_of : List ℕ → List ℕ → List (List ℕ)
lines_of line [] = cond (length line == 0) [] (line ∷ [])
lines_of line (x ∷ []) = (line ++ x ∷ []) ∷ []
lines_of line (x ∷ (y ∷ rest)) = cond (breaks x y) (line ∷ lines_of [] rest) (lines_of (line ++ x ∷ []) (y ∷ rest))

-- the lines that were not handed out
abbrev pub lines_left : Lines → List (List ℕ)
lines_left l = lines_of [] l.rest.now

-- the next line was handed out, with its place; or none was left, and nothing changed
abbrev pub GivesLine : Lines → Option Line → Lines → Type 0
GivesLine l given after = MatchOption given ((lines_left l ≡ []) × (after ≡ l))
    (λ line. (line.place ≡ l.taken + 1) × (after.taken ≡ l.taken + 1) × (lines_left l ≡ line.octets.now ∷ lines_left after))
