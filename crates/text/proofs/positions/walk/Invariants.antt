use Rattle.std.proofs.Common.{◌≡◌, drop}
use Rattle.text.specs.Lines.{ahead}
use Rattle.text.specs.Columns.{seek}
use Rattle.text.proofs.positions.walk.Given as goal

abbrev pub invariant-loop-at : goal.invariant-loop-at
invariant-loop-at g l = let u = g.E.PositionEncoding.units l.encoding in ahead l.«at» (seek u (drop l.«at» l.bytes) l.left) ≡ seek u l.bytes l.fn.character.0
