-- The text that ends a body, and the message of a frame. Assumes nothing.
use Rattle.std.proofs.Common.{◌≡◌, ℕ, ◌+◌, ◌≤◌, Bool, true, false, cond, eqb, List, length, drop, Some, None, sym, refl, ap, ◌∙◌, arith, length-drop}
use Rattle.std.specs.Bool.{then_some}
use Rattle.std.specs.Borrow.{Bor}
use Rattle.std.specs.Option.{option_map}
use Rattle.std.proofs.lemmas.Bool.Decides.{nat_tests}
use Rattle.std.proofs.lemmas.Bool.{cond-true, eq-eqb}
use Rattle.requests.specs.Bodies.{and, value_at, text_at}

pub text_told : (bs : List ℕ) (i n : ℕ) → Some n ≡ value_at bs i 8 → length bs ≡ i + 4 + n → Some (drop (i + 4) bs) ≡ text_at bs i
text_told bs i n e l =
    let all = Some (drop (i + 4) bs) in
    sym (cond-true (eqb (length bs) (i + 4 + n)) all None (eq-eqb (length bs) (i + 4 + n) l)) ∙ ap (λ o. and o (λ (k : ℕ). cond (eqb (length bs) (i + 4 + k)) all None)) e

-- the bytes behind its length, where they are as many as it says
pub text_behind : (bs : List ℕ) (text : Bor (List ℕ)) (i n : ℕ) → Some n ≡ value_at bs i 8 → i + 4 ≤ length bs → text.now ≡ drop (i + 4) bs
    → option_map (λ b. b.now) (then_some (eqb (length text.now) n) text) ≡ text_at bs i
text_behind bs text i n e l same =
    let size : eqb (length text.now) n ≡ eqb (length bs) (i + 4 + n) = grind (arith, nat_tests, length-drop (i + 4) bs, ap length same) in
    ap (λ v. option_map (λ b. b.now) (then_some v text)) size ∙ shown (eqb (length bs) (i + 4 + n)) text
    ∙ ap (λ (s : List ℕ). cond (eqb (length bs) (i + 4 + n)) (Some s) None) same
    ∙ ap (λ o. and o (λ (k : ℕ). cond (eqb (length bs) (i + 4 + k)) (Some (drop (i + 4) bs)) None)) e
  where
    shown : (v : Bool) (b : Bor (List ℕ)) → option_map (λ b. b.now) (then_some v b) ≡ cond v (Some b.now) None
    shown true b = refl
    shown false b = refl
