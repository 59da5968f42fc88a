-- The fields that hold a position. Assumes nothing.
use Rattle.std.specs.Prelude.{ℕ, List, Option}
use Rattle.std.specs.Option.{option_map, option_and_then}
use Rattle.notation.specs.Numbers.{behind, pair_of}

-- a position and a space, and what follows
abbrev pub position_field : List ℕ → Option (ℕ × ℕ × List ℕ)
position_field bs = option_and_then (λ p. option_map (λ rest. (p.0, p.1, rest)) (behind 32 p.2)) (pair_of bs)
