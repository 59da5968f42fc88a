use Rattle.std.proofs.Common.{arith}
use Rattle.std.proofs.lemmas.Bool.Decides.{nat_tests}
use Rattle.wire.specs.Words.{field_at}
use Rattle.wire.proofs.words.field.Goals as goal
use Rattle.wire.proofs.words.field.Goals.{then-word-kind, else-word-kind, then-low-value, else-low-value}

pub returns-in_err-word : goal.returns-in_err-word
unfolding field_at
returns-in_err-word c = grind (arith, nat_tests)

pub returns : goal.returns
unfolding field_at
returns c =
    elim c.if-word-kind.branch [
      | then-word-kind w ↦ elim c.if-low-value.branch [ then-low-value v ↦ grind (arith, nat_tests) | else-low-value v ↦ grind (arith, nat_tests) ]
      | else-word-kind w ↦ grind (arith, nat_tests)
    ]
