-- The frame of a message that goes up, written. Assumes nothing.
use Rattle.std.specs.Prelude.{◌≡◌, ℕ, ◌≤◌, Bool, true, not, List, [], ◌∷◌, length, nat_lt}
use Rattle.refusals.specs.Outcomes.{Outcome, taken, settle}
use Rattle.text.specs.Positions.{limit}
use Rattle.wire.specs.Words.{over, Octets}
use Rattle.wire.specs.Frames.{frame_of, read_frame}
use Rattle.requests.specs.Messages.{Up, ranged, text_of}
use Rattle.requests.specs.Bodies.{body_of, reading}

-- the most bytes of a frame
abbrev pub frame_limit : ℕ
frame_limit = 10301

abbrev pub frame : Up → List ℕ
frame m = frame_of (body_of m)

-- the slice has room for any frame, each value of the message is in its range, and its text is no longer than a text may be
pub record Writable (slice : List ℕ) (m : Up) : Type 0 where
  pub room : frame_limit ≤ length slice
  pub in_range : ranged m ≡ true
  pub short : length (text_of m) ≤ limit

-- the message's frame of n bytes is written over the front of a slice, and all else in it stays
pub record Writes (old new : List ℕ) (m : Up) (n : ℕ) : Type 0 where
  pub size : n ≡ length (frame m)
  pub bytes : new ≡ over old 0 (frame m)

-- what a written frame leaves: its length, and the slice with exactly its bytes written over the front
pub record Written : Type 0 where
  pub size : ℕ
  pub slice : List ℕ

abbrev pub leaves : List ℕ → ℕ → Written
leaves after n = record { size = n; slice = after }

abbrev pub write_checks : List ℕ → Up → List (ℕ × Bool)
write_checks slice m = (1, nat_lt (length slice) frame_limit) ∷ ((6, not (ranged m)) ∷ ((7, nat_lt limit (length (text_of m))) ∷ []))

abbrev pub write_rule : List ℕ → Up → Outcome (List ℕ) Written
write_rule slice m = settle (write_checks slice m) slice (leaves (over slice 0 (frame m)) (length (frame m)))

-- what is written is read as the same message
abbrev pub WrittenIsRead : Type 0
WrittenIsRead = (m : Up) → ranged m ≡ true → length (text_of m) ≤ limit → read_frame reading (frame m) ≡ taken m

-- no written frame is longer than 10,301 bytes
abbrev pub FramesAreShort : Type 0
FramesAreShort = (m : Up) → length (text_of m) ≤ limit → length (frame m) ≤ frame_limit

-- what is read is what is written of it: no message has a second spelling
abbrev pub ReadIsWritten : Type 0
ReadIsWritten = (bs : List ℕ) (m : Up) → Octets bs → read_frame reading bs ≡ taken m → frame m ≡ bs
