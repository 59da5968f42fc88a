-- The checks of one call made over other memory, and one list of checks after another. Assumes nothing.
use Rattle.std.proofs.Common.{◌≡◌, ℕ, Bool, true, false, cond, List, [], ◌∷◌, ◌++◌, refl}
use Rattle.std.specs.List.{AllByRecursion}
use Rattle.refusals.specs.Outcomes.{Outcome, refused, taken, settle}

module _ {M S N T : Type 0} (m : M) (s : S) (n : N) (t : T) where
  -- what was taken is taken over other memory too
  pub settle_taken : (cs : List (ℕ × Bool)) (x : S) → settle cs m s ≡ taken x → (x ≡ s) × (settle cs n t ≡ taken t)
  settle_taken [] x e = (cc, refl)
  settle_taken (c ∷ cs) x e =
      (elim c.1 as (λ b. cond b (refused c.0 m) (settle cs m s) ≡ taken x → (x ≡ s) × (cond b (refused c.0 n) (settle cs n t) ≡ taken t)) [
        | true ↦ λ e. (cc, cc)
        | false ↦ λ e. settle_taken cs x e
      ]) e

  -- what was refused is refused over other memory too
  pub settle_refused : (cs : List (ℕ × Bool)) (k : ℕ) (x : M) → settle cs m s ≡ refused k x → (x ≡ m) × (settle cs n t ≡ refused k n)
  settle_refused [] k x e = (cc, cc)
  settle_refused (c ∷ cs) k x e =
      (elim c.1 as (λ b. cond b (refused c.0 m) (settle cs m s) ≡ refused k x → (x ≡ m) × (cond b (refused c.0 n) (settle cs n t) ≡ refused k n)) [
        | true ↦ λ e. (cc, cc)
        | false ↦ λ e. settle_refused cs k x e
      ]) e

module _ {M S N T : Type 0} (m : M) (s : S) (n : N) (t : T) (ds : List (ℕ × Bool)) where
  -- checks that pass leave it to those after them
  pub settle_on : (cs : List (ℕ × Bool)) (x : S) → settle cs m s ≡ taken x → settle (cs ++ ds) n t ≡ settle ds n t
  settle_on [] x e = refl
  settle_on (c ∷ cs) x e =
      (elim c.1 as (λ b. cond b (refused c.0 m) (settle cs m s) ≡ taken x → cond b (refused c.0 n) (settle (cs ++ ds) n t) ≡ settle ds n t) [
        | true ↦ λ e. cc
        | false ↦ λ e. settle_on cs x e
      ]) e

  -- a check that fits ends it
  pub settle_stop : (cs : List (ℕ × Bool)) (k : ℕ) (x : M) → settle cs m s ≡ refused k x → settle (cs ++ ds) n t ≡ refused k n
  settle_stop [] k x e = cc
  settle_stop (c ∷ cs) k x e =
      (elim c.1 as (λ b. cond b (refused c.0 m) (settle cs m s) ≡ refused k x → cond b (refused c.0 n) (settle (cs ++ ds) n t) ≡ refused k n) [
        | true ↦ λ e. cc
        | false ↦ λ e. settle_stop cs k x e
      ]) e

-- where a call is taken, no check fits
pub settle_passes : {M S : Type 0} (m : M) (s : S) (cs : List (ℕ × Bool)) (x : S) → settle cs m s ≡ taken x → AllByRecursion (λ c. c.1 ≡ false) cs
settle_passes m s [] x e = tt
settle_passes {M} {S} m s (c ∷ cs) x e =
    (elim c.1 as (λ b. cond {A = Outcome M S} b (refused c.0 m) (settle cs m s) ≡ taken x → (b ≡ false) × AllByRecursion (λ c. c.1 ≡ false) cs) [
      | true ↦ λ e. absurd (cc)
      | false ↦ λ e. (refl, settle_passes m s cs x e)
    ]) e
