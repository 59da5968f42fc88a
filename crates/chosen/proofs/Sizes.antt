-- How long the text is that a change leaves. Assumes nothing.
use Rattle.std.proofs.Common.{◌≡◌, ℕ, ◌≤◌, false, List, length, take, IfOk, Ok, Err, Result, sym, ap, arith}
use Rattle.std.specs.List.{AllByRecursion}
use Rattle.std.proofs.lemmas.Bool.{ltb-false}
use Rattle.refusals.specs.Outcomes.{taken, outcome}
use Rattle.refusals.proofs.Settles.{settle_taken, settle_passes}
use Rattle.text.proofs.Changing.{roomy}
use Rattle.refusals.specs.declared.Refusal.{Refusal}
use Rattle.text.specs.Places.{Range}
use Rattle.text.specs.Positions.{Changed, change_rule, change_checks, leaves, limit, typed}

module _ (u : ℕ → ℕ) (memory : List ℕ) (n : ℕ) (r : Range) (new after : List ℕ) (k : ℕ) (e : taken (leaves after k) ≡ change_rule u memory n r new) where
  size : k ≡ length (typed u (take n memory) r new)
  size = ap (λ (x : Changed). x.size) (settle_taken memory _ memory (tt {0}) (change_checks u memory n r new) (leaves after k) (sym e)).0

  ok : AllByRecursion (λ c. c.1 ≡ false) (change_checks u memory n r new)
  ok = settle_passes memory _ (change_checks u memory n r new) (leaves after k) (sym e)

  small : k ≤ limit
  small = omega (arith, size, ltb-false limit (length (typed u (take n memory) r new)) ok.1.1.1.1.1.1.0)

  held : k ≤ length memory
  held = omega (arith, small, roomy memory n ok.0)

-- a taken change leaves a text that is short enough, and lies within the lent memory

pub within : (u : ℕ → ℕ) (memory : List ℕ) (n : ℕ) (r : Range) (new after : List ℕ) (x : Result ℕ Refusal) → outcome (leaves after) x after ≡ change_rule u memory n r new → IfOk x (λ k. k ≤ length memory)
within u memory n r new after (Err f) e = tt
within u memory n r new after (Ok k) e = held u memory n r new after k e

pub short : (u : ℕ → ℕ) (memory : List ℕ) (n : ℕ) (r : Range) (new after : List ℕ) (x : Result ℕ Refusal) → outcome (leaves after) x after ≡ change_rule u memory n r new → IfOk x (λ k. k ≤ limit)
short u memory n r new after (Err f) e = tt
short u memory n r new after (Ok k) e = small u memory n r new after k e
