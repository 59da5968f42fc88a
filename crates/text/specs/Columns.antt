-- Columns: units counted along a line, defined on every list of bytes. Assumes nothing.
use Rattle.std.specs.Prelude.{ℕ, zero, suc, ◌+◌, ◌-◌, cond, List, [], ◌∷◌, Some, None, Option, ◌==◌, nat_lt}
use Rattle.utf8.specs.Characters.{first_char}
use Rattle.text.specs.Lines.{is_end, later}

abbrev pub counted : (ℕ → ℕ) → Option ℕ → ℕ
counted u None = 0
counted u (Some c) = u c

-- the units of the character that begins here, 0 where none does
unfoldable pub wide : (ℕ → ℕ) → List ℕ → ℕ
wide u bs = counted u (first_char bs)

module _ (u : ℕ → ℕ) where
  -- the units of the first n bytes
  abbrev pub units_of : List ℕ → ℕ → ℕ
  units_of t zero = 0
  units_of [] (suc n) = 0
  units_of (b ∷ t) (suc n) = wide u (b ∷ t) + units_of t n

  -- the units of the content of the first line
  abbrev pub line_units : List ℕ → ℕ
  line_units [] = 0
  line_units (b ∷ t) = cond (is_end b) 0 (wide u (b ∷ t) + line_units t)

  -- how many bytes into the first line its column c is: the line's end if it has fewer units, none inside a character
  abbrev pub seek : List ℕ → ℕ → Option ℕ
  seek [] c = Some 0
  seek (b ∷ t) c =
      cond (is_end b) (Some 0)
      (cond (wide u (b ∷ t) == 0) (later (seek t c))
      (cond (c == 0) (Some 0)
      (cond (nat_lt c (wide u (b ∷ t))) None (later (seek t (c - wide u (b ∷ t)))))))
