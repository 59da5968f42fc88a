-- Pieces: tokens without their place. Assumes nothing.
use Rattle.std.specs.Prelude.{ℕ}
use Rattle.languages.specs.declared.token.TokenType.{TokenType}
use Rattle.scanner.specs.declared.piece.Piece.{Piece}

-- a piece without modifiers
abbrev pub plain : ℕ → TokenType → Piece
plain n kind = record { length = n; kind = kind; modifiers = 0 }
