-- Whether only spaces and tabs stand before a place in its line. Assumes nothing.
use Rattle.std.specs.Prelude.{ℕ, zero, suc, Bool, true, cond, ◌||◌, List, Some, None, Option, ◌==◌, slice_index}
use Rattle.text.specs.Lines.{is_end}

-- space or tab
abbrev pub blank : ℕ → Bool
blank b = b == 32 || b == 9

-- what a byte says of the place behind it, nothing where it is blank
abbrev pub lead_of : ℕ → Option Bool
lead_of b = cond (blank b) None (Some (is_end b))

-- whether it is so of the place behind a byte, told the same of the byte's own place
abbrev pub after : Bool → ℕ → Bool
after clear b = cond (blank b) clear (is_end b)

-- only spaces and tabs stand before a place in its line
abbrev pub clear_at : List ℕ → ℕ → Bool
clear_at text zero = true
clear_at text (suc i) = after (clear_at text i) (slice_index text i)
