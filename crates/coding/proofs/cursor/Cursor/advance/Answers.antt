use Rattle.std.proofs.Common.{drop, arith}
use Rattle.coding.proofs.Moving.{wide_few, column_le}
use Rattle.coding.proofs.cursor.Cursor.advance.Goals as goal

pub overflow_add-column : goal.overflow_add-column
overflow_add-column g c =
    let counts = g.met.E.PositionEncoding.counts c.args.encoding.now in
    omega (arith, column_le _ _ counts c.args.text.now c.loop-at.at 0, wide_few _ _ counts (drop c.loop-at.at c.args.text.now))
