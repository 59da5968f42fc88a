use Rattle.std.proofs.Common.{arith, ap, length}
use Rattle.notation.proofs.Steps.{lines_next}
use Rattle.notation.proofs.line.ScriptLinesIterator.next.Goals as goal

pub returns-clause-steps : goal.returns-clause-steps
returns-clause-steps c = lines_next c.args.self.now.rest.now c.first_line-line.result.value.now c.first_line-line.result.rest.now (grind arith) c.first_line-line.ensures.value

pub returns-clause-goes : goal.returns-clause-goes
returns-clause-goes c =
    let step = lines_next c.args.self.now.rest.now c.first_line-line.result.value.now c.first_line-line.result.rest.now (grind arith) c.first_line-line.ensures.value in
    let size = ap length step in record { on = λ _. (tt, tt, omega arith); keeps = tt; rests = λ _. tt }
