use Rattle.std.proofs.Common.{◌≡◌, drop}
use Rattle.text.specs.Lines.{ahead, start_of}
use Rattle.text.proofs.lines.line_start.Given as goal

abbrev pub invariant-loop-at : goal.invariant-loop-at
invariant-loop-at l = ahead l.«at» (start_of (drop l.«at» l.text) l.left) ≡ start_of l.text l.line
