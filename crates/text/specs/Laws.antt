-- What the definitions of texts mean: laws of places, columns, lines and changes. Assumes nothing.
use Rattle.std.specs.Prelude.{◌≡◌, ℕ, ◌+◌, ◌-◌, ◌<◌, ◌≤◌, true, false, List, [], ◌∷◌, length, take, drop, IsUtf8, ◌≢◌}
use Rattle.std.specs.Str.{chars}
use Rattle.text.specs.declared.places.Position.{Position}
use Rattle.text.specs.Places.{Range}
use Rattle.text.specs.Lines.{start_of, content, content_of}
use Rattle.text.specs.Columns.{units_of}
use Rattle.text.specs.Positions.{or0, no_line, line_at, inside, place_of, cut_column, cut_position, typed}

-- a place between characters: what stands before it and what stands behind it are texts
pub record Between (t : List ℕ) (n : ℕ) : Type 0 where
  pub within : n ≤ length t
  pub before : IsUtf8 (take n t)
  pub behind : IsUtf8 (drop n t)

-- a position that is not refused
pub record There (u : ℕ → ℕ) (t : List ℕ) (p : Position) : Type 0 where
  pub line : no_line t p ≡ false
  pub outside : inside u t p ≡ false

-- the place of a position lies between characters
abbrev pub PlacesLieBetweenCharacters : Type 0
PlacesLieBetweenCharacters = (u : ℕ → ℕ) (t : List ℕ) (p : Position) → IsUtf8 t → There u t p → Between t (place_of u t p)

-- the place of a position is as many units into its line as its character says, cut to the line's length
abbrev pub PlacesCountTheirColumn : Type 0
PlacesCountTheirColumn = (u : ℕ → ℕ) (t : List ℕ) (p : Position) → There u t p → units_of u (line_at t p) (place_of u t p - or0 (start_of t p.line)) ≡ cut_column u t p

-- a position keeps its place where its character is cut to its line's length
abbrev pub CutPositionsKeepTheirPlace : Type 0
CutPositionsKeepTheirPlace = (u : ℕ → ℕ) (t : List ℕ) (p : Position) → (inside u t (cut_position u t p) ≡ inside u t p) × (place_of u t (cut_position u t p) ≡ place_of u t p)

-- a position falls inside a character only where no place of its line has that many units before it
abbrev pub InsideMeansNoSuchColumn : Type 0
InsideMeansNoSuchColumn = (u : ℕ → ℕ) (t : List ℕ) (p : Position) → inside u t p ≡ true → (n : ℕ) → n ≤ length (content (line_at t p)) → units_of u (line_at t p) n ≢ p.character.0

abbrev pub total : (ℕ → ℕ) → List ℕ → ℕ
total u [] = 0
total u (c ∷ cs) = u c + total u cs

-- on a text, the units counted up to a place between characters are those of the characters before it
abbrev pub UnitsAreOfCharacters : Type 0
UnitsAreOfCharacters = (u : ℕ → ℕ) (t : List ℕ) (n : ℕ) → IsUtf8 t → Between t n → units_of u t n ≡ total u (chars (take n t))

-- a change of a text by a text is a text
abbrev pub ChangesOfTextsAreTexts : Type 0
ChangesOfTextsAreTexts = (u : ℕ → ℕ) (t new : List ℕ) (r : Range) → IsUtf8 t → IsUtf8 new → There u t r.start → There u t r.end → IsUtf8 (typed u t r new)

-- lines before the start line of a change keep their start and their content, also where LF is put behind a CR
abbrev pub EarlierLinesStay : Type 0
EarlierLinesStay = (u : ℕ → ℕ) (t new : List ℕ) (r : Range) (k : ℕ) → no_line t r.start ≡ false → k < r.start.line
    → (start_of (typed u t r new) k ≡ start_of t k) × (content_of (typed u t r new) k ≡ content_of t k)
