-- The parts of a script's line. Assumes nothing.
use Rattle.std.specs.Prelude.{ℕ, Bool, false, cond, ◌&&◌, ◌||◌, List, [], ◌∷◌, length, Some, None, Option, ◌==◌, nat_le}
use Rattle.std.specs.List.{list_all}
use Rattle.std.specs.Option.{option_and_then}
use Rattle.notation.specs.Numbers.{number_of}
use Rattle.commission.specs.declared.command.Command.{Command}
use Rattle.commission.specs.declared.command.Command.TheVariants.{Lend}

-- nothing but spaces
abbrev pub blank : List ℕ → Bool
blank bs = list_all (λ b. b == 32) bs

abbrev pub comment : List ℕ → Bool
comment [] = false
comment (b ∷ bs) = b == 35

abbrev pub passed_over : List ℕ → Bool
passed_over bs = comment bs || blank bs

-- a number that nothing follows, of the memory that is lent
abbrev pub lend_of : List ℕ → Option Command
lend_of bs = option_and_then (λ n. cond (length n.1 == 0 && nat_le n.0 65536) (Some (Lend n.0)) None) (number_of bs)
