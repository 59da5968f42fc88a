use Rattle.std.proofs.Common.{◌≡◌}
use Rattle.scanner.specs.Leads.{clear_at}
use Rattle.scanner.proofs.Steps.{clear_behind}
use Rattle.scanner.proofs.leads.is_clear.Given as goal

abbrev pub invariant-loop-b : goal.invariant-loop-b
invariant-loop-b l = clear_behind l.b-iterator.iter.rest.now ≡ clear_at l.text l.fn.place.0
