-- A frame: a header, and a body that is read as a message. Assumes nothing.
use Rattle.std.specs.Prelude.{ℕ, List, ◌++◌, length, drop, Some, None, Option}
use Rattle.refusals.specs.Outcomes.{Outcome, refused, taken}
use Rattle.wire.specs.Headers.{heading, header_rule}

-- the frame of a body
abbrev pub frame_of : List ℕ → List ℕ
frame_of body = heading (length body) ++ body

-- a body that is no message is refused
abbrev pub told : {S : Type 0} → Option S → Outcome (Unit {0}) S
told None = refused 6 tt
told (Some m) = taken m

abbrev pub behind : {S : Type 0} → (List ℕ → Option S) → List ℕ → Outcome (Unit {0}) ℕ → Outcome (Unit {0}) S
behind reads bs (refused k m) = refused k m
behind reads bs (taken start) = told (reads (drop start bs))

-- reading a frame: its header, its length, and its body as a message
abbrev pub read_frame : {S : Type 0} → (List ℕ → Option S) → List ℕ → Outcome (Unit {0}) S
read_frame reads bs = behind reads bs (header_rule bs)
