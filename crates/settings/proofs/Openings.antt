-- What opens no token. Assumes nothing.
use Rattle.std.proofs.Common.{◌≡◌, ℕ, Bool, true, [], None, ap, arith}
use Rattle.std.specs.Option.{option_and_then}
use Rattle.std.proofs.lemmas.Bool.Decides.{nat_tests}
use Rattle.text.specs.Lines.{is_end}
use Rattle.settings.specs.Reading.{opens, read_as}

ends_open_nothing : (b : ℕ) → is_end b ≡ true → opens b ≡ None
ends_open_nothing b l = grind (arith, nat_tests)

pub nothing : (b : ℕ) → is_end b ≡ true → (clear : Bool) → option_and_then (λ c. read_as c clear []) (opens b) ≡ None
nothing b l clear = ap (option_and_then (λ c. read_as c clear [])) (ends_open_nothing b l)
