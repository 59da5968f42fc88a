-- The classes of bytes that tokens run through. Assumes nothing.
use Rattle.std.specs.Prelude.{ℕ, Bool, not, ◌&&◌, ◌||◌, ◌==◌, nat_le}
use Rattle.text.specs.Lines.{is_end}
use Rattle.scanner.specs.declared.runs.Run.{Run}
use Rattle.scanner.specs.declared.runs.Run.TheVariants.{Word, Digits, Content, Unquoted}

abbrev pub in_range : ℕ → ℕ → ℕ → Bool
in_range low high b = nat_le low b && nat_le b high

-- `A` to `Z`, `a` to `z` or `_`
abbrev pub letter : ℕ → Bool
letter b = in_range 65 90 b || (in_range 97 122 b || b == 95)

-- `0` to `9`
abbrev pub digit : ℕ → Bool
digit b = in_range 48 57 b

-- `"`
abbrev pub quote : ℕ → Bool
quote b = b == 34

-- which bytes a run goes on through
abbrev pub belongs : Run → ℕ → Bool
belongs Word b = letter b || digit b
belongs Digits b = digit b
belongs Content b = not (is_end b)
belongs Unquoted b = not (is_end b || quote b)
