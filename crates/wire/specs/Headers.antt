-- The header of a frame: `Content-Length: N`, CR LF, CR LF, with N in decimal. Assumes nothing.
use Rattle.std.specs.Prelude.{◌≡◌, ℕ, ◌+◌, ◌≤◌, Bool, true, not, ◌&&◌, List, [], ◌∷◌, ◌++◌, length, take, drop, codes, decimal, ◌==◌, nat_le}
use Rattle.std.specs.Char.{is_ascii_digit}
use Rattle.std.specs.Str.Parse.{digits_value}
use Rattle.std.specs.List.{prefix_len}
use Rattle.std.specs.Str.{bytes_eq}
use Rattle.refusals.specs.Outcomes.{Outcome, settle}

-- the most bytes of a body
abbrev pub body_limit : ℕ
body_limit = 10276

abbrev pub label : List ℕ
label = codes "Content-Length: "

-- a line end and an empty line
abbrev pub ending : List ℕ
ending = 13 ∷ 10 ∷ 13 ∷ 10 ∷ []

-- the header that announces a body of n bytes
unfoldable pub heading : ℕ → List ℕ
heading n = label ++ (decimal n ++ ending)

-- the digits that bs begins with, n of them at most
abbrev pub digits_of : ℕ → List ℕ → List ℕ
digits_of n bs = take (prefix_len is_ascii_digit (take n bs)) bs

-- the number that the digits behind the label write; a number up to 10,276 has five at most
abbrev pub announced : List ℕ → ℕ
announced bs = digits_value 10 (digits_of 5 (drop 16 bs))

-- bs begins with the header that announces n
abbrev pub headed : List ℕ → ℕ → Bool
headed bs n = nat_le n body_limit && bytes_eq (heading n) (take (length (heading n)) bs)

-- the body of a frame begins behind its header, and has as many bytes as it says
abbrev pub header_checks : List ℕ → List (ℕ × Bool)
header_checks bs =
    (4, not (headed bs (announced bs))) ∷
    ((5, not (length bs == length (heading (announced bs)) + announced bs)) ∷ [])

abbrev pub header_rule : List ℕ → Outcome (Unit {0}) ℕ
header_rule bs = settle (header_checks bs) tt (length (heading (announced bs)))

-- a frame begins with the header of its announced number exactly where it begins with the header of some number
abbrev pub HeadersAnnounce : Type 0
HeadersAnnounce = (n : ℕ) (rest : List ℕ) → n ≤ body_limit → (announced (heading n ++ rest) ≡ n) × (headed (heading n ++ rest) n ≡ true)
