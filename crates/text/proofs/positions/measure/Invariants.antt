use Rattle.std.proofs.Common.{◌≡◌, ◌-◌, ◌≤◌, drop}
use Rattle.text.specs.Columns.{line_units}
use Rattle.text.proofs.positions.measure.Given as goal

-- what is left of the most units, once the rest of the line is counted too, is what is left after the whole of it
abbrev pub invariant-loop-at : goal.invariant-loop-at
invariant-loop-at g l =
    let u = g.E.PositionEncoding.units l.encoding in
    (l.left ≤ l.most.0) × (l.left - line_units u (drop l.«at» l.bytes) ≡ l.most.0 - line_units u l.bytes)
