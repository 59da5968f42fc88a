use Rattle.std.proofs.Common.{◌↔◌, length, IsUtf8}
use Rattle.utf8.proofs.well_formed.Given as goal

-- what is left is a text exactly where the whole is
abbrev pub invariant-loop-rest : goal.invariant-loop-rest
invariant-loop-rest l = IsUtf8 l.text ↔ IsUtf8 l.rest

abbrev pub decreases-loop-rest : goal.decreases-loop-rest
decreases-loop-rest l = length l.rest
