-- Where a body begins, check by check. Assumes nothing.
use Rattle.std.proofs.Common.{◌≡◌, ℕ, ◌+◌, ◌≤◌, Bool, true, false, cond, List, ◌++◌, length, Some, None, decimal, refl, ap, ◌∙◌, arith, length-append}
use Rattle.std.proofs.lemmas.Fmt.{length-decimal-le}
use Rattle.std.proofs.lemmas.Bool.{and_parts, leb-true, eq-eqb, ne_eqb}
use Rattle.refusals.specs.Outcomes.{refused, taken}
use Rattle.wire.specs.Headers.{body_limit, label, ending, heading, announced, headed, header_rule}

-- a header has at most 25 bytes
pub header_size : (n : ℕ) → n ≤ body_limit → length (heading n) ≤ 25
unfolding heading
header_size n h =
    let few = length-decimal-le 5 n (omega arith) (omega arith) (omega arith) in
    let size = length-append label (decimal n ++ ending) ∙ ap (λ k. 16 + k) (length-append (decimal n) ending) in
    omega arith

module _ (bs : List ℕ) where
  pub no_header : None ≡ cond (headed bs (announced bs)) (Some (length (heading (announced bs)))) None → refused 4 tt ≡ header_rule bs
  no_header e = by (headed bs (announced bs)) refl e
    where
      by : (v : Bool) → headed bs (announced bs) ≡ v → None ≡ cond v (Some (length (heading (announced bs)))) None → refused 4 tt ≡ header_rule bs
      by true h e = absurd (cc)
      by false h e = rw h

  module _ (start : ℕ) (e : Some start ≡ cond (headed bs (announced bs)) (Some (length (heading (announced bs)))) None) where
    found : (headed bs (announced bs) ≡ true) × (start ≡ length (heading (announced bs)))
    found = by (headed bs (announced bs)) refl e
      where
        by : (v : Bool) → headed bs (announced bs) ≡ v → Some start ≡ cond v (Some (length (heading (announced bs)))) None → (headed bs (announced bs) ≡ true) × (start ≡ length (heading (announced bs)))
        by true h e = (h, cc)
        by false h e = absurd (cc)

    pub small : announced bs ≤ body_limit
    small = leb-true _ _ (and_parts _ _ found.0).0

    pub start_is : start ≡ length (heading (announced bs))
    start_is = found.1

    pub wrong_length : (length bs ≡ start + announced bs → ⊥) → refused 5 tt ≡ header_rule bs
    wrong_length h =
        let a = found.0 in
        let b = ne_eqb (length bs) (length (heading (announced bs)) + announced bs) (λ q. h (omega (arith, found.1))) in
        rw (a, b)

    pub begins : length bs ≡ start + announced bs → taken start ≡ header_rule bs
    begins h =
        let a = found.0 in
        let b = eq-eqb (length bs) (length (heading (announced bs)) + announced bs) (omega (arith, found.1)) in
        rw (a, b) (ap taken found.1)
