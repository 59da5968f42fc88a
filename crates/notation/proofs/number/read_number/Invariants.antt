use Rattle.std.proofs.Common.{◌≡◌, ◌+◌, ◌^◌, ◌<◌, length, drop}
use Rattle.notation.specs.Numbers.{digits, worth}
use Rattle.notation.proofs.number.read_number.Given as goal

-- the digits that are left go on with the number, and with their count
abbrev pub invariant-loop-b : goal.invariant-loop-b
invariant-loop-b l =
    (l.size ≡ l.b-index) × (l.value < 2 ^ 32)
    × (worth l.value (digits (drop l.b-index l.from)) ≡ worth 0 (digits l.from))
    × (l.b-index + length (digits (drop l.b-index l.from)) ≡ length (digits l.from))
