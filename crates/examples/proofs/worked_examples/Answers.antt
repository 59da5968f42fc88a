use Rattle.std.proofs.Common.{refl}
use lib.Utf8.{encode}
use Rattle.std.specs.Str.{chars}
use Rattle.utf8.specs.Characters.{first_char}
use Rattle.utf8.specs.Grammar.{well_formed}
use Rattle.text.specs.Columns.{wide}
use Rattle.text.specs.Positions.{inside, place_of}
use Rattle.languages.specs.Tokens.{tokens}
use Rattle.coding.specs.Coding.{fresh}
use Rattle.examples.specs.Examples.{Examples}
use Rattle.examples.proofs.worked_examples.Goals as goal

examples : Examples
unfolding chars encode well_formed first_char wide inside place_of tokens fresh
examples = record { surrogate = refl; below_surrogates = refl; inside = refl; behind = refl; past = refl; no_line = refl; route_coded = refl; setting_coded = refl }

pub returns : goal.returns
returns c = record { count = refl; proved = examples }
