use Rattle.std.proofs.Common.{◌∙◌, arith}
use Rattle.text.proofs.Counting.{ends_here, count_more, count_all}
use Rattle.text.proofs.Starts.{counted_lines_are_there}
use Rattle.text.proofs.lines.line_count.Goals as goal
use Rattle.text.proofs.lines.line_count.Goals.{then-ends_line, else-ends_line}

pub loop-at-preserved : goal.loop-at-preserved
loop-at-preserved c =
    let more = count_more c.args.text.now c.loop-at.at (omega arith) in
    let e = c.ends_line.ensures ∙ ends_here c.args.text.now c.loop-at.at (omega arith) in
    elim c.if-ends_line.branch [
      | then-ends_line w ↦ grind (arith, w.count-is, w.if-ends_line.true, e, more, c.loop-at.invariant)
      | else-ends_line w ↦ grind (arith, w.count-is, w.if-ends_line.false, e, more, c.loop-at.invariant)
    ]

pub returns : goal.returns
returns c = record { count = omega (arith, count_all c.args.text.now c.loop-at.at (omega arith)); lines = counted_lines_are_there }
