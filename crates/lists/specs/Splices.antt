-- Splices: a part of a list replaced by another list, in a slice that holds the list. Assumes nothing.
use Rattle.std.specs.Prelude.{ℕ, ◌+◌, ◌-◌, Bool, cond, ◌&&◌, List, ◌++◌, length, take, drop, Some, None, Option, nat_le}

-- xs with the entries from start up to end replaced by new
abbrev pub replaced : {A : Type 0} → List A → ℕ → ℕ → List A → List A
replaced xs start end new = take start xs ++ (new ++ drop end xs)

-- the places are in order in a list of n entries, and with size entries in their part it fits in room entries
abbrev pub fits : ℕ → ℕ → ℕ → ℕ → ℕ → Bool
fits room n start end size = nat_le start end && (nat_le end n && (nat_le n room && nat_le (start + size + (n - end)) room))

-- what a splice leaves: the whole slice as it was, or a list of some length at its front
pub data Ended (A : Type 0) : Type 0 where
  kept : List A → Ended A
  holds : ℕ → List A → Ended A

abbrev pub ended : {A : Type 0} → Option ℕ → List A → Ended A
ended None slice = kept slice
ended (Some n) slice = holds n (take n slice)

-- a splice of the n entries at the front of a slice
abbrev pub splice_rule : {A : Type 0} → List A → ℕ → ℕ → ℕ → List A → Ended A
splice_rule slice n start end new =
    cond (fits (length slice) n start end (length new))
    (holds (start + length new + (n - end)) (replaced (take n slice) start end new))
    (kept slice)

-- what a copy leaves: the whole slice, with how many entries were written if they fitted
abbrev pub copied : {A : Type 0} → Option ℕ → List A → Ended A
copied None slice = kept slice
copied (Some n) slice = holds n slice

-- the entries of from over the front of a slice
abbrev pub copy_rule : {A : Type 0} → List A → List A → Ended A
copy_rule slice from = cond (nat_le (length from) (length slice)) (holds (length from) (from ++ drop (length from) slice)) (kept slice)
