use Rattle.std.proofs.Common.{length}
use Rattle.token_vectors.proofs.codings.read_numbers.Given as goal

abbrev pub invariant-loop-numbers : goal.invariant-loop-numbers
invariant-loop-numbers l = Unit {0}

-- each number, and each comma, takes something off
abbrev pub decreases-loop-numbers : goal.decreases-loop-numbers
decreases-loop-numbers l = length l.rest
