-- A line's content, and what stands before a place in its line. Assumes nothing.
use Rattle.std.proofs.Common.{◌≡◌, ℕ, zero, suc, ◌<◌, ◌≤◌, true, false, cond, List, [], ◌∷◌, ◌++◌, length, get_or, take, sym, refl, ap, ◌∙◌, arith}
use Rattle.std.proofs.lemmas.List.{get_or_append_left}
use Rattle.std.proofs.lemmas.Bool.{cond-true}
use Rattle.std.proofs.lemmas.Bool.Decides.{nat_tests}
use Rattle.text.specs.Lines.{is_end, content}
use Rattle.scanner.specs.Leads.{after, clear_at}

pub end_low : (b : ℕ) → is_end b ≡ true → b < 128
end_low b e = grind (arith, nat_tests)

-- a byte of the content is the text's, and ends no line
pub content_in : (s : List ℕ) (i : ℕ) → i < length (content s) → (get_or (content s) i 0 ≡ get_or s i 0) × (is_end (get_or s i 0) ≡ false)
content_in [] i h = absurd (omega arith)
content_in (b ∷ bs) zero h = (elim (is_end b) as (λ v. is_end b ≡ v → 0 < length (cond v [] (b ∷ content bs)) → (get_or (cond v [] (b ∷ content bs)) 0 0 ≡ b) × (is_end b ≡ false)) [
  | true ↦ λ e l. absurd (omega arith)
  | false ↦ λ e l. (refl, e)
]) refl h
content_in (b ∷ bs) (suc i) h = (elim (is_end b) as (λ v. suc i < length (cond v [] (b ∷ content bs)) → (get_or (cond v [] (b ∷ content bs)) (suc i) 0 ≡ get_or bs i 0) × (is_end (get_or bs i 0) ≡ false)) [
  | true ↦ λ l. absurd (omega arith)
  | false ↦ λ l. content_in bs i (omega arith)
]) h

-- a line end follows the content, unless the text ends there
pub content_stop : (s : List ℕ) → length (content s) < length s → is_end (get_or s (length (content s)) 0) ≡ true
content_stop [] h = absurd (omega arith)
content_stop (b ∷ bs) h = (elim (is_end b) as (λ v. is_end b ≡ v → length (cond v [] (b ∷ content bs)) < length (b ∷ bs) → is_end (get_or (b ∷ bs) (length (cond v [] (b ∷ content bs))) 0) ≡ true) [
  | true ↦ λ e l. e
  | false ↦ λ e l. content_stop bs (omega arith)
]) refl h

-- what stands in the content stands in the text
pub take_content : (n : ℕ) (s : List ℕ) → n ≤ length (content s) → take n (content s) ≡ take n s
take_content zero s h = refl
take_content (suc n) [] h = refl
take_content (suc n) (b ∷ bs) h = (elim (is_end b) as (λ v. suc n ≤ length (cond v [] (b ∷ content bs)) → take (suc n) (cond v [] (b ∷ content bs)) ≡ b ∷ take n bs) [
  | true ↦ λ l. absurd (omega arith)
  | false ↦ λ l. ap (λ k. b ∷ k) (take_content n bs (omega arith))
]) h

-- what follows a line end changes no content before it
pub content_cut : (s x : List ℕ) (e : ℕ) → is_end e ≡ true → content ((s ++ (e ∷ [])) ++ x) ≡ content (s ++ (e ∷ []))
content_cut [] x e l = cond-true (is_end e) _ _ l ∙ sym (cond-true (is_end e) _ _ l)
content_cut (b ∷ bs) x e l = ap (λ k. cond (is_end b) [] (b ∷ k)) (content_cut bs x e l)

pub clear_cut : (p x : List ℕ) (i : ℕ) → i ≤ length p → clear_at (p ++ x) i ≡ clear_at p i
clear_cut p x zero h = refl
clear_cut p x (suc i) h = λ k. after (clear_cut p x i (omega arith) k) (get_or_append_left p x 0 i (omega arith) k)
