-- The relative coding of semantic tokens: five numbers for each token. Assumes nothing.
use Rattle.std.specs.Prelude.{◌≡◌, ℕ, ◌+◌, ◌-◌, ◌^◌, ◌<◌, ◌≤◌, Bool, cond, ◌⊎◌, List, [], ◌∷◌, ◌++◌, length, take, drop, Option, ◌==◌, nat_lt, slice_get}
use Rattle.std.specs.List.{AllByRecursion}
use Rattle.refusals.specs.Outcomes.{Outcome, settle}
use Rattle.text.specs.Units.{Counts}
use Rattle.text.specs.Positions.{IsText, text_checks}
use Rattle.languages.specs.Tokens.{Next, LanguageLaws, tokens}
use Rattle.coding.specs.declared.placed.PlacedToken.{PlacedToken}
use Rattle.coding.specs.Placing.{placed_tokens}

-- the most tokens of a list, and the numbers that these are
abbrev pub token_limit : ℕ
token_limit = 512

abbrev pub list_limit : ℕ
list_limit = 2560

-- each token from the line and column of the one before, here l and c: how many lines further down; the column, minus
-- the column before where both share a line; the length in units; the type; the modifiers
abbrev pub code : ℕ → ℕ → List PlacedToken → List ℕ
code l c [] = []
code l c (x ∷ xs) =
    (x.line - l) ∷ (cond (x.line == l) (x.column - c) x.column ∷ (x.units ∷ (x.kind ∷ (x.modifiers ∷ code x.line x.column xs))))

-- decoding adds up again; numbers behind the last whole five are no token
abbrev pub decode : ℕ → ℕ → List ℕ → List PlacedToken
decode l c [] = []
decode l c (a ∷ []) = []
decode l c (a ∷ b ∷ []) = []
decode l c (a ∷ b ∷ n ∷ []) = []
decode l c (a ∷ b ∷ n ∷ k ∷ []) = []
decode l c (a ∷ b ∷ n ∷ k ∷ m ∷ xs) =
    record { line = l + a; column = cond (a == 0) (c + b) b; units = n; kind = k; modifiers = m } ∷ decode (l + a) (cond (a == 0) (c + b) b) xs

-- token k of a coded list
abbrev pub token_at : List ℕ → ℕ → Option PlacedToken
token_at list k = slice_get (decode 0 0 (take list_limit list)) k

-- the fresh coding of a text, from line 0 and column 0
unfoldable pub fresh : (ℕ → ℕ) → Next → List ℕ → List ℕ
fresh u next t = code 0 0 (placed_tokens u next t)

-- what coding a text checks, and what it leaves in a list that is lent for it
abbrev pub code_checks : Next → List ℕ → List ℕ → List (ℕ × Bool)
code_checks next t list = (1, nat_lt (length list) list_limit) ∷ (text_checks t ++ ((18, nat_lt token_limit (length (tokens next t))) ∷ []))

pub record Coded : Type 0 where
  pub size : ℕ
  pub numbers : List ℕ
  pub beyond : List ℕ

abbrev pub code_rule : (ℕ → ℕ) → Next → List ℕ → List ℕ → Outcome (List ℕ) Coded
code_rule u next t list = settle (code_checks next t list) list (record { size = length (fresh u next t); numbers = fresh u next t; beyond = drop list_limit list })

-- a lent list after a coding of n numbers
abbrev pub leaves : List ℕ → ℕ → Coded
leaves list n = record { size = n; numbers = take n list; beyond = drop list_limit list }

-- tokens in order: each on a later line than the one before, here l and c, or on its line and at no smaller column
abbrev pub Ordered : ℕ → ℕ → List PlacedToken → Type 0
Ordered l c [] = Unit {0}
Ordered l c (x ∷ xs) = ((l < x.line) ⊎ ((l ≡ x.line) × (c ≤ x.column))) × Ordered x.line x.column xs

-- a list of tokens in order, coded and decoded, is the same list
abbrev pub DecodingUndoesCoding : Type 0
DecodingUndoesCoding = (l c : ℕ) (xs : List PlacedToken) → Ordered l c xs → decode l c (code l c xs) ≡ xs

-- the tokens of a text are in order
abbrev pub TokensAreInOrder : Type 0
TokensAreInOrder = (u : ℕ → ℕ) (next : Next) (kinds : ℕ) (t : List ℕ) → LanguageLaws next kinds → IsText t → Ordered 0 0 (placed_tokens u next t)

-- every number of a fresh coding fits 28 bits
abbrev pub FreshCodingsFitWords : Type 0
FreshCodingsFitWords = (u : ℕ → ℕ) (largest : ℕ) (next : Next) (kinds : ℕ) (t : List ℕ) → Counts u largest → LanguageLaws next kinds → IsText t → AllByRecursion (λ n. n < 2 ^ 28) (fresh u next t)

-- the coding of a list's first tokens is the first part of the list's coding
abbrev pub FirstTokensCodeFirst : Type 0
FirstTokensCodeFirst = (l c : ℕ) (xs ys : List PlacedToken) → take (length (code l c xs)) (code l c (xs ++ ys)) ≡ code l c xs
