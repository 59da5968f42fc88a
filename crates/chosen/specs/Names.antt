-- What the names of encodings and languages mean. Assumes nothing.
use Rattle.std.specs.Prelude.{◌≡◌, ℕ, List, ◌++◌, Some, None, codes, Option, ◌≢◌}
use Rattle.notation.specs.declared.encoding.Encoding.{Encoding}
use Rattle.notation.specs.declared.encoding.Encoding.TheVariants.{Utf8, Utf16, Utf32}
use Rattle.languages.specs.Tokens.{Next}
use Rattle.routes.specs.Reading.{routes_next}
use Rattle.settings.specs.Reading.{settings_next}
use Rattle.chosen.specs.declared.tongues.Tongue.{Tongue}
use Rattle.chosen.specs.declared.tongues.Tongue.TheVariants.{Routes, Settings}
use Rattle.notation.specs.declared.parsed.Parsed.{Parsed}
use Rattle.text.specs.Units.{utf8_units, utf16_units, utf32_units}

-- the units that the columns of an encoding count
abbrev pub units_of : Encoding → ℕ → ℕ
units_of Utf8 = utf8_units
units_of Utf16 = utf16_units
units_of Utf32 = utf32_units

-- what a language answers
abbrev pub next_of : Tongue → Next
next_of Routes = routes_next
next_of Settings = settings_next

-- a language's name, with the space behind it
abbrev pub name_of : Tongue → List ℕ
name_of Routes = codes "routes "
name_of Settings = codes "settings "

-- the list is the language's name and what follows it; none where it begins with no name
abbrev pub Speaks : List ℕ → Option (Parsed Tongue) → Type 0
Speaks bs None = (t : Tongue) (rest : List ℕ) → bs ≢ name_of t ++ rest
Speaks bs (Some p) = bs ≡ name_of p.value ++ p.rest.now
