-- Tokens by line and column. Assumes nothing.
use Rattle.std.specs.Prelude.{◌≡◌, ℕ, zero, suc, ◌+◌, cond, List, [], ◌∷◌, map, drop}
use Rattle.text.specs.Lines.{ends}
use Rattle.text.specs.Columns.{wide, units_of}
use Rattle.languages.specs.declared.token.Token.{Token}
use Rattle.languages.specs.Tokens.{Next, tokens}
use Rattle.coding.specs.declared.cursor.Cursor.{Cursor}
use Rattle.coding.specs.declared.placed.PlacedToken.{PlacedToken}

-- the line of a place: one for each line end before it
abbrev pub line_of : List ℕ → ℕ → ℕ
line_of t zero = 0
line_of [] (suc p) = 0
line_of (b ∷ t) (suc p) = cond (ends b t) 1 0 + line_of t p

module _ (u : ℕ → ℕ) where
  -- the column of a place, where the text begins c units into its first line
  abbrev pub column_of : List ℕ → ℕ → ℕ → ℕ
  column_of t zero c = c
  column_of [] (suc p) c = c
  column_of (b ∷ t) (suc p) c = column_of t p (cond (ends b t) 0 (c + wide u (b ∷ t)))

  -- a token of a text by line, column and length in units
  abbrev pub placed : List ℕ → Token → PlacedToken
  placed t k = record {
    line = line_of t k.place.0;
    column = column_of t k.place.0 0;
    units = units_of u (drop k.place.0 t) k.length;
    kind = k.kind;
    modifiers = k.modifiers;
  }

  -- a cursor has the line and the column of its place
  pub record IsAt (t : List ℕ) (c : Cursor) : Type 0 where
    pub line : c.line ≡ line_of t c.«at»
    pub column : c.column ≡ column_of t c.«at» 0

  -- the tokens of a text by line and column
  abbrev pub placed_tokens : Next → List ℕ → List PlacedToken
  placed_tokens next t = map (placed t) (tokens next t)
