-- The place of a position, and the text that a change makes. Assumes nothing.
use Rattle.std.specs.Prelude.{ℕ, ◌+◌, ◌≤◌, min, Bool, true, false, not, ◌||◌, List, [], ◌∷◌, ◌++◌, length, take, drop, Some, None, IsUtf8, Option, nat_lt}
use Rattle.refusals.specs.Outcomes.{Outcome, settle}
use Rattle.lists.specs.Splices.{replaced}
use Rattle.text.specs.declared.places.Position.{Position}
use Rattle.text.specs.Places.{Range}
use Rattle.utf8.specs.Grammar.{well_formed}
use Rattle.text.specs.Lines.{start_of}
use Rattle.text.specs.Columns.{seek, line_units}

-- the most bytes that a text has
abbrev pub limit : ℕ
limit = 8192

abbrev pub or0 : Option ℕ → ℕ
or0 None = 0
or0 (Some n) = n

abbrev pub is_none : Option ℕ → Bool
is_none None = true
is_none (Some n) = false

-- the position's line is not there
abbrev pub no_line : List ℕ → Position → Bool
no_line t p = is_none (start_of t p.line)

-- the text from the start of the position's line on
abbrev pub line_at : List ℕ → Position → List ℕ
line_at t p = drop (or0 (start_of t p.line)) t

module _ (u : ℕ → ℕ) where
  -- the position falls inside a character
  unfoldable pub inside : List ℕ → Position → Bool
  inside t p = is_none (seek u (line_at t p) p.character.0)

  -- the place of a position whose line is there and that falls inside no character
  unfoldable pub place_of : List ℕ → Position → ℕ
  place_of t p = or0 (start_of t p.line) + or0 (seek u (line_at t p) p.character.0)

  -- the place of column c of the line that starts at place n
  abbrev pub along_rule : List ℕ → ℕ → ℕ → Outcome (Unit {0}) ℕ
  along_rule t n c = settle ((13, is_none (seek u (drop n t) c)) ∷ []) tt (n + or0 (seek u (drop n t) c))

  abbrev pub resolve_rule : List ℕ → Position → Outcome (Unit {0}) ℕ
  resolve_rule t p = settle ((12, no_line t p) ∷ ((13, inside t p) ∷ [])) tt (place_of t p)

  -- the character cut to its line's length
  unfoldable pub cut_column : List ℕ → Position → ℕ
  cut_column t p = min p.character.0 (line_units u (line_at t p))

  abbrev pub cut_position : List ℕ → Position → Position
  cut_position t p = record { line = p.line; character = record { 0 = cut_column t p } }

  abbrev pub cut_rule : List ℕ → Position → Outcome (Unit {0}) ℕ
  cut_rule t p = settle ((12, no_line t p) ∷ []) tt (cut_column t p)

  -- what is checked of a range: each number over both positions
  abbrev pub range_checks : List ℕ → Range → List (ℕ × Bool)
  range_checks t r =
      (12, no_line t r.start || no_line t r.end) ∷
      ((13, inside t r.start || inside t r.end) ∷
      ((14, nat_lt (place_of t r.end) (place_of t r.start)) ∷ []))

  abbrev pub range_rule : List ℕ → Range → Outcome (Unit {0}) (ℕ × ℕ)
  range_rule t r = settle (range_checks t r) tt (place_of t r.start, place_of t r.end)

  -- the text with a range of it replaced by another text
  unfoldable pub typed : List ℕ → Range → List ℕ → List ℕ
  typed t r new = replaced t (place_of t r.start) (place_of t r.end) new

-- a text: well-formed UTF-8 of at most 8,192 bytes
pub record IsText (t : List ℕ) : Type 0 where
  pub whole : IsUtf8 t
  pub short : length t ≤ limit

-- what is checked of a text that a call brings
abbrev pub text_checks : List ℕ → List (ℕ × Bool)
text_checks t = (7, nat_lt limit (length t)) ∷ ((8, not (well_formed t)) ∷ [])

abbrev pub check_rule : List ℕ → Outcome (Unit {0}) (Unit {0})
check_rule t = settle (text_checks t) tt tt

-- the bytes as a text
abbrev pub text_rule : List ℕ → Outcome (Unit {0}) (List ℕ)
text_rule t = settle (text_checks t) tt t

-- memory that is to hold a text of n bytes is too short for any text, or what it holds is no text
abbrev pub unsound : List ℕ → ℕ → Bool
unsound memory n = nat_lt (length memory) limit || (nat_lt limit n || not (well_formed (take n memory)))

-- what a taken change leaves: the text, its length, and what lies beyond the memory that a text is kept in
pub record Changed : Type 0 where
  pub size : ℕ
  pub text : List ℕ
  pub beyond : List ℕ

module _ (u : ℕ → ℕ) (memory : List ℕ) (n : ℕ) (r : Range) (new : List ℕ) where
  abbrev pub change_checks : List (ℕ × Bool)
  change_checks =
      (1, unsound memory n) ∷ (text_checks new ++ (range_checks u (take n memory) r ++ ((15, nat_lt limit (length (typed u (take n memory) r new))) ∷ [])))

  abbrev pub change_rule : Outcome (List ℕ) Changed
  change_rule =
      settle change_checks memory (record { size = length (typed u (take n memory) r new); text = typed u (take n memory) r new; beyond = drop limit memory })

-- the memory after a change that answered the new length k
abbrev pub leaves : List ℕ → ℕ → Changed
leaves memory k = record { size = k; text = take k memory; beyond = drop limit memory }
