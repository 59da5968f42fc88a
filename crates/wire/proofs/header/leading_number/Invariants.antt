use Rattle.std.proofs.Common.{◌≡◌, ◌^◌, ◌<◌, drop}
use Rattle.std.specs.Str.Parse.{digits_value, digits_value_after}
use Rattle.wire.proofs.Announcing.{leading}
use Rattle.wire.proofs.header.leading_number.Given as goal

abbrev pub invariant-loop-b : goal.invariant-loop-b
invariant-loop-b l = (digits_value_after 10 l.number (leading (drop l.b-index l.bytes)) ≡ digits_value 10 (leading l.bytes)) × (l.number < 10 ^ l.b-index)
