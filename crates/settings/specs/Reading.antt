-- The settings language, by what starts the rest of a line. Assumes nothing.
use Rattle.std.specs.Prelude.{ℕ, Bool, cond, ◌||◌, List, length, take, Some, None, Option, codes, ◌==◌}
use Rattle.std.specs.List.{prefix_len}
use Rattle.std.specs.Str.{bytes_eq}
use Rattle.languages.specs.declared.token.TokenType.TheVariants as types
use Rattle.languages.specs.Tokens.{Next}
use Rattle.scanner.specs.declared.piece.Piece.{Piece}
use Rattle.scanner.specs.declared.runs.Run.TheVariants as runs
use Rattle.scanner.specs.Pieces.{plain}
use Rattle.scanner.specs.Runs.{letter, digit, belongs}
use Rattle.scanner.specs.Scan.{Reading, by_first, next_by}
use Rattle.settings.specs.declared.Opening.{Opening}
use Rattle.settings.specs.declared.Opening.TheVariants.{Word, Number, Operator}

-- the modifiers
abbrev pub readonly : ℕ
readonly = 1

abbrev pub declaration : ℕ
declaration = 2

-- what a byte opens: a letter or `_` a word, a digit a number, `=` an operator
abbrev pub opens : ℕ → Option Opening
opens b = cond (letter b) (Some Word) (cond (digit b) (Some Number) (cond (b == 61) (Some Operator) None))

-- a word with only spaces and tabs before it in its line is a property, else `on` and `off` are keywords, others variables
abbrev pub word_piece : Bool → List ℕ → Piece
word_piece clear w =
    cond clear (record { length = length w; kind = types.Property; modifiers = declaration })
    (cond (bytes_eq w (codes "on") || bytes_eq w (codes "off"))
    (record { length = length w; kind = types.Keyword; modifiers = readonly })
    (plain (length w) types.Variable))

-- the piece that is opened, from the rest of the line's content
abbrev pub read_as : Opening → Reading
read_as Word clear line = Some (word_piece clear (take (prefix_len (belongs runs.Word) line) line))
read_as Number clear line = Some (plain (prefix_len (belongs runs.Digits) line) types.Number)
read_as Operator clear line = Some (plain 1 types.Operator)

abbrev pub settings_reading : Reading
settings_reading = by_first opens read_as

-- the next token of a text from a place on
abbrev pub settings_next : Next
settings_next = next_by settings_reading
