-- The numbers of token types, case by case. Assumes nothing.
use Rattle.std.specs.Prelude.{ℕ}
use Rattle.languages.specs.declared.token.TokenType.{TokenType}
use Rattle.languages.specs.declared.token.TokenType.TheVariants.{Comment, Keyword, Variable, Number, Operator, String, Property}

abbrev pub type_number : TokenType → ℕ
type_number Comment = 0
type_number Keyword = 1
type_number Variable = 2
type_number Number = 3
type_number Operator = 4
type_number String = 5
type_number Property = 6
