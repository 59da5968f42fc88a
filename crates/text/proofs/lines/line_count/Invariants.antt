use Rattle.std.proofs.Common.{◌≡◌, ◌+◌, ◌≤◌, drop}
use Rattle.text.specs.Lines.{line_count}
use Rattle.text.proofs.lines.line_count.Given as goal

abbrev pub invariant-loop-at : goal.invariant-loop-at
invariant-loop-at l = (l.count + line_count (drop l.«at» l.text) ≡ 1 + line_count l.text) × (l.count ≤ 1 + l.«at»)
