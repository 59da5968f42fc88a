use Rattle.std.proofs.Common.{◌≡◌}
use Rattle.coding.specs.Placing.{line_of, column_of}
use Rattle.coding.proofs.cursor.Cursor.advance.Given as goal

abbrev pub invariant-loop-at : goal.invariant-loop-at
invariant-loop-at g l = record {
  line : l.line ≡ line_of l.text l.«at»;
  column : l.column ≡ column_of (g.E.PositionEncoding.units l.encoding) l.text l.«at» 0;
}
