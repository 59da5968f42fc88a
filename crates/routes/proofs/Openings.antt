-- What opens no token, and what stands behind a quote. Assumes nothing.
use Rattle.std.proofs.Common.{◌≡◌, ℕ, Bool, true, false, cond, List, [], ◌∷◌, drop, Some, None, slice_index, refl, ap, ◌∙◌, arith}
use Rattle.std.specs.Option.{option_and_then}
use Rattle.std.proofs.lemmas.Bool.Decides.{nat_tests}
use Rattle.text.specs.Lines.{is_end, content}
use Rattle.routes.specs.declared.Opening.TheVariants.{Quote}
use Rattle.routes.specs.Reading.{opens, read_as}

ends_open_nothing : (b : ℕ) → is_end b ≡ true → opens b ≡ None
ends_open_nothing b l = grind (arith, nat_tests)

pub nothing : (b : ℕ) → is_end b ≡ true → (clear : Bool) → option_and_then (λ c. read_as c clear []) (opens b) ≡ None
nothing b l clear = ap (option_and_then (λ c. read_as c clear [])) (ends_open_nothing b l)

-- behind a quote the content goes on
pub behind_quote : (s : List ℕ) → Some Quote ≡ opens (slice_index s 0) → drop 1 (content s) ≡ content (drop 1 s)
behind_quote [] e = absurd (cc)
behind_quote (b ∷ bs) e = (elim (is_end b) as (λ v. is_end b ≡ v → drop 1 (cond v [] (b ∷ content bs)) ≡ content bs) [
  | true ↦ λ l. let o = e ∙ ends_open_nothing b l in absurd (cc)
  | false ↦ λ _. refl
]) refl
