-- Worked examples of the rules, each a theorem about the definitions. Assumes nothing.
use Rattle.std.specs.Prelude.{◌≡◌, ℕ, true, false, List, [], ◌∷◌, ◌++◌, codes}
use Rattle.refusals.specs.Outcomes.{refused, taken}
use Rattle.text.specs.declared.places.Position.{Position}
use Rattle.utf8.specs.Grammar.{well_formed}
use Rattle.text.specs.Units.{utf16_units}
use Rattle.text.specs.Positions.{resolve_rule}
use Rattle.routes.specs.Reading.{routes_next}
use Rattle.settings.specs.Reading.{settings_next}
use Rattle.coding.specs.Coding.{fresh}

abbrev pub position : ℕ → ℕ → Position
position l c = record { line = l; character = record { 0 = c } }

-- `; ` and U+1F321
abbrev pub thermometer : List ℕ
thermometer = 0x3B ∷ 0x20 ∷ 0xF0 ∷ 0x9F ∷ 0x8C ∷ 0xA1 ∷ []

-- a route to a wildcard topic with a comment behind it, and a second line
abbrev pub route : List ℕ
route = codes "route a/+ " ++ (thermometer ++ (0x0A ∷ codes "to 12"))

-- a setting
abbrev pub setting : List ℕ
setting = codes "  x = on 25"

-- `a`
abbrev pub letter : List ℕ
letter = 0x61 ∷ []

pub record Examples : Type 0 where
  -- UTF-8 has no surrogates
  pub surrogate : well_formed (0xED ∷ 0xA0 ∷ 0x80 ∷ []) ≡ false
  pub below_surrogates : well_formed (0xED ∷ 0x9F ∷ 0xBF ∷ []) ≡ true
  -- the thermometer has two units in UTF-16
  pub inside : resolve_rule utf16_units thermometer (position 0 3) ≡ refused 13 tt
  pub behind : resolve_rule utf16_units thermometer (position 0 4) ≡ taken 6
  -- a character past the content means the content's end
  pub past : resolve_rule utf16_units thermometer (position 0 9) ≡ taken 6
  -- a text with no line end has line 0 alone
  pub no_line : resolve_rule utf16_units letter (position 1 0) ≡ refused 12 tt
  -- keyword, variable, operator, comment; on the next line keyword, number
  pub route_coded : fresh utf16_units routes_next route
      ≡ 0 ∷ 0 ∷ 5 ∷ 1 ∷ 0 ∷ 0 ∷ 6 ∷ 1 ∷ 2 ∷ 0 ∷ 0 ∷ 2 ∷ 1 ∷ 4 ∷ 0 ∷ 0 ∷ 2 ∷ 4 ∷ 0 ∷ 0 ∷ 1 ∷ 0 ∷ 2 ∷ 1 ∷ 0 ∷ 0 ∷ 3 ∷ 2 ∷ 3 ∷ 0 ∷ []
  -- property, operator, keyword, number
  pub setting_coded : fresh utf16_units settings_next setting
      ≡ 0 ∷ 2 ∷ 1 ∷ 6 ∷ 2 ∷ 0 ∷ 2 ∷ 1 ∷ 4 ∷ 0 ∷ 0 ∷ 2 ∷ 2 ∷ 1 ∷ 1 ∷ 0 ∷ 3 ∷ 2 ∷ 3 ∷ 0 ∷ []
