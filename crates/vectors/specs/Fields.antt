-- The answer of a call. Assumes nothing.
use Rattle.std.specs.Prelude.{ℕ, List, ◌++◌, Ok, Err, codes, decimal, Result}
use Rattle.refusals.specs.Numbers.{number_of}
use Rattle.refusals.specs.declared.Refusal.{Refusal}

abbrev pub settled_text : Result ℕ Refusal → List ℕ
settled_text (Ok n) = codes "0 " ++ decimal n
settled_text (Err r) = decimal (number_of r)
