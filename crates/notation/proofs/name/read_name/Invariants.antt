use Rattle.std.proofs.Common.{take}
use Rattle.notation.specs.Names.{IsUnnamed}
use Rattle.notation.proofs.name.read_name.Given as goal

abbrev pub invariant-loop-name : goal.invariant-loop-name
invariant-loop-name g l = IsUnnamed (take l.name-index l.names) l.from
