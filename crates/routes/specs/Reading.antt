-- The routes language, by what starts the rest of a line. Assumes nothing.
use Rattle.std.specs.Prelude.{ℕ, ◌+◌, cond, ◌||◌, List, [], ◌∷◌, length, take, drop, Some, None, Option, codes, ◌==◌}
use Rattle.std.specs.List.{prefix_len}
use Rattle.std.specs.Str.{bytes_eq}
use Rattle.languages.specs.declared.token.TokenType.{TokenType}
use Rattle.languages.specs.declared.token.TokenType.TheVariants as types
use Rattle.languages.specs.Tokens.{Next}
use Rattle.scanner.specs.declared.runs.Run.TheVariants as runs
use Rattle.scanner.specs.Pieces.{plain}
use Rattle.scanner.specs.Runs.{letter, digit, quote, belongs}
use Rattle.scanner.specs.Scan.{Reading, by_first, next_by}
use Rattle.routes.specs.declared.Opening.{Opening}
use Rattle.routes.specs.declared.Opening.TheVariants.{Comment, Word, Number, Operator, Quote}

-- what a byte opens: `;` a comment, a letter or `_` a word, a digit a number, `+` and `#` an operator, `"` a string
abbrev pub opens : ℕ → Option Opening
opens b =
    cond (b == 59) (Some Comment)
    (cond (letter b) (Some Word)
    (cond (digit b) (Some Number)
    (cond (b == 43 || b == 35) (Some Operator)
    (cond (quote b) (Some Quote) None))))

-- `route`, `to` and `drop` are keywords, other words variables
abbrev pub word_type : List ℕ → TokenType
word_type w = cond (bytes_eq w (codes "route") || (bytes_eq w (codes "to") || bytes_eq w (codes "drop"))) types.Keyword types.Variable

-- the bytes through the next quote, else all
abbrev pub through : List ℕ → ℕ
through [] = 0
through (b ∷ bs) = cond (quote b) 1 (1 + through bs)

-- the piece that is opened, from the rest of the line's content
abbrev pub read_as : Opening → Reading
read_as Comment clear line = Some (plain (length line) types.Comment)
read_as Word clear line = Some (plain (prefix_len (belongs runs.Word) line) (word_type (take (prefix_len (belongs runs.Word) line) line)))
read_as Number clear line = Some (plain (prefix_len (belongs runs.Digits) line) types.Number)
read_as Operator clear line = Some (plain 1 types.Operator)
read_as Quote clear line = Some (plain (1 + through (drop 1 line)) types.String)

abbrev pub routes_reading : Reading
routes_reading = by_first opens read_as

-- the next token of a text from a place on
abbrev pub routes_next : Next
routes_next = next_by routes_reading
