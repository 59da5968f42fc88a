-- Strings lie in the rest of their line, and one that ends before its line does ends with a quote. Assumes nothing.
use Rattle.std.specs.Prelude.{◌≡◌, ℕ, ◌+◌, ◌<◌, ◌≤◌, true, false, cond, List, [], ◌∷◌, length, slice_index, refl}
use Rattle.std.proofs.Common.{one-add, arith}
use Rattle.std.proofs.lemmas.Bool.{eqb-true}
use Rattle.scanner.specs.Runs.{quote}
use Rattle.routes.specs.Reading.{through}

pub through_fits : (bs : List ℕ) → through bs ≤ length bs
through_fits [] = omega arith
through_fits (b ∷ bs) = elim (quote b) as (λ v. cond v 1 (1 + through bs) ≤ length (b ∷ bs)) [
  | true ↦ omega arith
  | false ↦ let h = through_fits bs in omega arith
]

-- a string that ends before its line does ends with a quote
pub through_closed : (a : ℕ) (bs : List ℕ) → through bs < length bs → slice_index (a ∷ bs) (through bs) ≡ 34
through_closed a [] h = absurd (omega arith)
through_closed a (b ∷ bs) h = (elim (quote b) as (λ v. quote b ≡ v → cond v 1 (1 + through bs) < length (b ∷ bs) → slice_index (a ∷ b ∷ bs) (cond v 1 (1 + through bs)) ≡ 34) [
  | true ↦ λ e l. eqb-true b 34 e
  | false ↦ λ e l. rw one-add (through_closed b bs (omega arith))
]) refl h
