-- How long a string is, by where its next quote stands. Assumes nothing.
use Rattle.std.proofs.Common.{◌≡◌, ℕ, ◌+◌, Bool, true, false, cond, not, ◌||◌, List, [], ◌∷◌, slice_index, sym, refl, ap, ◌∙◌, one-add, arith}
use Rattle.std.specs.List.{prefix_len}
use Rattle.std.proofs.lemmas.Bool.Decides.{nat_tests}
use Rattle.text.specs.Lines.{is_end, content}
use Rattle.scanner.specs.declared.runs.Run.TheVariants.{Unquoted}
use Rattle.scanner.specs.Runs.{quote, belongs}
use Rattle.routes.specs.Reading.{through}

-- one byte more where a quote stands at n
abbrev pub closed : List ℕ → ℕ → ℕ
closed s n = n + cond (quote (slice_index s n)) 1 0

pub through_is : (s : List ℕ) → through (content s) ≡ closed s (prefix_len (belongs Unquoted) s)
through_is [] = refl
through_is (b ∷ bs) =
    let n : ℕ = prefix_len (belongs Unquoted) bs in
    (elim (is_end b) as (λ v. is_end b ≡ v → through (cond v [] (b ∷ content bs)) ≡ closed (b ∷ bs) (cond (not (v || quote b)) (1 + n) 0)) [
      | true ↦ λ e. let q : quote b ≡ false = grind (arith, nat_tests) in sym (ap (λ (v : Bool). 0 + cond v 1 0) q)
      | false ↦ λ e. (elim (quote b) as (λ q. quote b ≡ q → cond q 1 (1 + through (content bs)) ≡ closed (b ∷ bs) (cond (not q) (1 + n) 0)) [
        | true ↦ λ q. sym (ap (λ (v : Bool). 0 + cond v 1 0) q)
        | false ↦ λ q. omega (arith, through_is bs, ap (λ (k : ℕ). cond {A = ℕ} (quote (slice_index (b ∷ bs) k)) 1 0) (one-add n))
      ]) refl
    ]) refl

pub closed_at : (s : List ℕ) (n : ℕ) → n ≡ prefix_len (belongs Unquoted) s → (v : Bool) → quote (slice_index s n) ≡ v → through (content s) ≡ n + cond v 1 0
closed_at s n e v q = through_is s ∙ ap (closed s) (sym e) ∙ ap (λ (w : Bool). n + cond w 1 0) q
