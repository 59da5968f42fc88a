-- The token list of a text in a language, and what a language has to show. Assumes nothing.
use Rattle.std.specs.Prelude.{◌≡◌, ℕ, zero, suc, ◌+◌, ◌-◌, ◌<◌, ◌≤◌, true, false, List, [], ◌∷◌, ◌++◌, length, Some, None, filter, Option, nat_lt, slice_index}
use Rattle.std.specs.Str.{IsCharBoundary}
use Rattle.refusals.specs.Outcomes.{Outcome, settle}
use Rattle.text.specs.Lines.{is_end}
use Rattle.text.specs.Positions.{IsText, text_checks}
use Rattle.languages.specs.declared.token.Token.{Token}

-- what a language answers, from a text and a place
abbrev pub Next : Type 0
Next = List ℕ → ℕ → Option Token

abbrev pub end : Token → ℕ
end t = t.place.0 + t.length

abbrev pub followed : Option Token → (Token → List Token) → List Token
followed None f = []
followed (Some t) f = t ∷ f t

-- at most `fuel` tokens from a place on
abbrev pub up_to : ℕ → Next → List ℕ → ℕ → List Token
up_to zero next text from = []
up_to (suc fuel) next text from = followed (next text from) (λ t. up_to fuel next text (end t))

-- the tokens from a place on: asked there, then from each token's end, until none. Each takes a byte at least, so
-- there are no more than the bytes that are left
abbrev pub rest : Next → List ℕ → ℕ → List Token
rest next text from = up_to (length text - from) next text from

-- the token list of a text
unfoldable pub tokens : Next → List ℕ → List Token
tokens next text = rest next text 0

-- the tokens that start within the first n bytes
abbrev pub within : ℕ → List Token → List Token
within n ts = filter (λ t. nat_lt t.place.0 n) ts

-- what a token has to show that is the answer from a place of a text
pub record Fits (text : List ℕ) (from kinds : ℕ) (t : Token) : Type 0 where
  pub start : from ≤ t.place.0
  pub some : 1 ≤ t.length
  pub inside : end t ≤ length text
  -- it lies on whole characters
  pub begins : IsCharBoundary text t.place.0
  pub ends : IsCharBoundary text (end t)
  -- it holds no CR and no LF
  pub one_line : (i : ℕ) → t.place.0 ≤ i → i < end t → is_end (slice_index text i) ≡ false
  pub known : t.kind < kinds
  pub small : t.modifiers < 1024

-- what a language has to show, of texts
pub record LanguageLaws (next : Next) (kinds : ℕ) : Type 0 where
  pub few : kinds ≤ 1024
  pub fits : (text : List ℕ) → IsText text → (from : ℕ) (t : Token) → next text from ≡ Some t → Fits text from kinds t
  -- a place past the text or inside a character gives none
  pub astray : (text : List ℕ) → IsText text → (from : ℕ) → (IsCharBoundary text from → ⊥) → next text from ≡ None
  -- the law of beginnings: two texts that begin with the same bytes, the last of these a CR or LF, have the same tokens
  -- starting within those bytes
  pub beginnings : (p x y : List ℕ) (e : ℕ) → is_end e ≡ true → IsText ((p ++ (e ∷ [])) ++ x) → IsText ((p ++ (e ∷ [])) ++ y)
      → within (length (p ++ (e ∷ []))) (tokens next ((p ++ (e ∷ [])) ++ x)) ≡ within (length (p ++ (e ∷ []))) (tokens next ((p ++ (e ∷ [])) ++ y))

-- a token that was asked for: it fits, and it is the first of the tokens that are left
pub record Step (next : Next) (kinds : ℕ) (text : List ℕ) (from : ℕ) (t : Token) : Type 0 where
  pub fits : Fits text from kinds t
  pub first : rest next text from ≡ t ∷ rest next text (end t)

-- how many tokens a text has
abbrev pub count_rule : Next → List ℕ → Outcome (Unit {0}) ℕ
count_rule next text = settle (text_checks text) tt (length (tokens next text))
