-- The lines of a script. Assumes nothing.
use Rattle.std.specs.Prelude.{ℕ, Bool, List, [], ◌∷◌, cond, ◌==◌}
use Rattle.std.specs.List.{before_first, after_first}
use Rattle.notation.specs.declared.line.ScriptLines.{ScriptLines}

-- LF
abbrev pub is_end : ℕ → Bool
is_end b = b == 10

-- the first line without its end, and what follows the end
unfoldable pub line_of : List ℕ → List ℕ × List ℕ
line_of bs = (before_first is_end bs, after_first is_end bs)

-- one more byte in front of the first line
abbrev pub lengthened : ℕ → List (List ℕ) → List (List ℕ)
lengthened b [] = (b ∷ []) ∷ []
lengthened b (l ∷ ls) = (b ∷ l) ∷ ls

-- the lines of a script without their ends
abbrev pub lines_of : List ℕ → List (List ℕ)
lines_of [] = []
lines_of (b ∷ bs) = cond (is_end b) ([] ∷ lines_of bs) (lengthened b (lines_of bs))

-- what an iterator over lines has still to give
abbrev pub lines_left : ScriptLines → List (List ℕ)
lines_left l = lines_of l.rest.now
