-- The number that the front of a list of bytes writes in decimal digits. Assumes nothing.
use Rattle.std.specs.Prelude.{ℕ, ◌+◌, ◌-◌, ◌*◌, ◌^◌, cond, ◌&&◌, List, [], ◌∷◌, length, drop, Some, None, Option, ◌==◌, nat_lt}
use Rattle.std.specs.Option.{option_map, option_and_then}
use Rattle.std.specs.Char.{is_ascii_digit}

-- the digits at the front
abbrev pub digits : List ℕ → List ℕ
digits [] = []
digits (b ∷ bs) = cond (is_ascii_digit b) (b ∷ digits bs) []

-- the number that digits write behind those of n
abbrev pub worth : ℕ → List ℕ → ℕ
worth n [] = n
worth n (d ∷ ds) = worth (n * 10 + (d - 48)) ds

-- the number and what follows its digits: there is a digit, and the number is below 2 ^ 32
unfoldable pub number_of : List ℕ → Option (ℕ × List ℕ)
number_of bs =
    cond (nat_lt 0 (length (digits bs)) && nat_lt (worth 0 (digits bs)) (2 ^ 32))
    (Some (worth 0 (digits bs), drop (length (digits bs)) bs)) None

-- what follows a byte m at the front
abbrev pub behind : ℕ → List ℕ → Option (List ℕ)
behind m [] = None
behind m (b ∷ bs) = cond (b == m) (Some bs) None

-- two numbers with a colon between them, and what follows
abbrev pub pair_of : List ℕ → Option (ℕ × ℕ × List ℕ)
pair_of bs =
    option_and_then (λ m. option_and_then (λ rest. option_map (λ n. (m.0, n.0, n.1)) (number_of rest)) (behind 58 m.1)) (number_of bs)
