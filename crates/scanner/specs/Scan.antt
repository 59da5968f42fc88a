-- A language by the piece that starts the rest of a line, and that it keeps the laws of languages. Assumes nothing.
use Rattle.std.specs.Prelude.{◌≡◌, ℕ, ◌+◌, ◌-◌, ◌<◌, ◌≤◌, Bool, cond, List, [], ◌∷◌, length, drop, Some, None, Option, slice_index}
use Rattle.std.specs.Option.{option_and_then}
use Rattle.text.specs.Lines.{content}
use Rattle.languages.specs.declared.token.Token.{Token}
use Rattle.languages.specs.Types.{type_number}
use Rattle.languages.specs.Tokens.{Next, LanguageLaws}
use Rattle.scanner.specs.declared.piece.Piece.{Piece}
use Rattle.scanner.specs.Runs.{in_range}
use Rattle.scanner.specs.Leads.{after, clear_at}

-- the piece that starts the rest of a line's content, told whether only spaces and tabs stand before it in the line
abbrev pub Reading : Type 0
Reading = Bool → List ℕ → Option Piece

-- a piece at a place
abbrev pub token : ℕ → Piece → Token
token at p = record { place = record { 0 = at }; length = p.length; kind = type_number p.kind; modifiers = p.modifiers }

-- the piece at the place where there is one, else what comes later
abbrev pub found : ℕ → Option Piece → Option Token → Option Token
found at None later = later
found at (Some p) later = Some (token at p)

-- a byte after a character's first
abbrev pub inner : ℕ → Bool
inner b = in_range 128 191 b

-- the piece that starts what is left of a text: only a character's first byte starts one
abbrev pub start_of : Reading → Bool → List ℕ → Option Piece
start_of read clear [] = None
start_of read clear (b ∷ bs) = cond (inner b) None (read clear (content (b ∷ bs)))

-- the first token of what is left of a text at a place
abbrev pub first : Reading → Bool → ℕ → List ℕ → Option Token
first read clear at [] = None
first read clear at (b ∷ bs) = found at (start_of read clear (b ∷ bs)) (first read (after clear b) (at + 1) bs)

-- the next token of a text from a place on: the first that starts there or later, none from a place inside a character
abbrev pub next_by : Reading → Next
next_by read text from = cond (inner (slice_index text from)) None (first read (clear_at text from) from (drop from text))

-- a reading that goes by what the first byte opens, if anything
abbrev pub by_first : {C : Type 0} → (ℕ → Option C) → (C → Reading) → Reading
by_first opens read_as clear [] = None
by_first opens read_as clear (b ∷ bs) = option_and_then (λ c. read_as c clear (b ∷ bs)) (opens b)

-- what a piece has to show that starts the rest of a line's content
pub record Starts (line : List ℕ) (kinds : ℕ) (p : Piece) : Type 0 where
  pub some : 1 ≤ p.length
  pub inside : p.length ≤ length line
  -- it ends with the line's content or with an ASCII character
  pub closed : p.length < length line → slice_index line (p.length - 1) < 128
  pub known : type_number p.kind < kinds
  pub small : p.modifiers < 1024

abbrev pub Sound : Reading → ℕ → Type 0
Sound read kinds = (clear : Bool) (line : List ℕ) (p : Piece) → read clear line ≡ Some p → Starts line kinds p

-- a reading whose pieces are sound makes a language that keeps the laws
abbrev pub SoundReadingsAreLawful : Type 0
SoundReadingsAreLawful = (read : Reading) (kinds : ℕ) → kinds ≤ 1024 → Sound read kinds → LanguageLaws (next_by read) kinds
