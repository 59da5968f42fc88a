-- Coding a text, check by check. Assumes nothing.
use Rattle.std.proofs.Common.{◌≡◌, ℕ, ◌<◌, ◌≤◌, Bool, ltb, List, [], ◌∷◌, ◌++◌, length, take, drop, sym, ◌∙◌, arith}
use Rattle.std.proofs.lemmas.List.{take-append-le, drop_at}
use Rattle.std.proofs.lemmas.Bool.{cond-true, cond-false, lt-ltb, le-ltb}
use Rattle.refusals.specs.Outcomes.{refused, taken, settle}
use Rattle.refusals.proofs.Settles.{settle_on, settle_stop}
use Rattle.text.specs.Positions.{text_checks}
use Rattle.languages.specs.Tokens.{Next, tokens}
use Rattle.coding.specs.Coding.{fresh, token_limit, list_limit, Coded, code_rule, leaves}

module _ (u : ℕ → ℕ) (next : Next) (t list : List ℕ) where
  abbrev done : Coded
  done = record { size = length (fresh u next t); numbers = fresh u next t; beyond = drop list_limit list }

  abbrev last : List (ℕ × Bool)
  last = (18, ltb token_limit (length (tokens next t))) ∷ []

  pub short_list : length list < list_limit → refused 1 list ≡ code_rule u next t list
  short_list h = sym (cond-true _ _ _ (lt-ltb _ _ h))

  module _ (room : list_limit ≤ length list) where
    text_next : settle (text_checks t ++ last) list done ≡ code_rule u next t list
    text_next = sym (cond-false _ _ _ (le-ltb _ _ room))

    -- s is what is stated of a text that is taken: nothing (`check_rule`), or the text (`text_rule`)
    pub bad_text : {S : Type 0} (s : S) (k : ℕ) → refused k (tt {0}) ≡ settle (text_checks t) tt s → refused k list ≡ code_rule u next t list
    bad_text s k e = sym (settle_stop (tt {0}) s list done last (text_checks t) k tt (sym e)) ∙ text_next

    module _ {S : Type 0} (s x : S) (good : taken x ≡ settle (text_checks t) (tt {0}) s) where
      count_next : settle last list done ≡ code_rule u next t list
      count_next = sym (settle_on (tt {0}) s list done last (text_checks t) x (sym good)) ∙ text_next

      pub too_many : token_limit < length (tokens next t) → refused 18 list ≡ code_rule u next t list
      too_many h = sym (cond-true _ _ _ (lt-ltb _ _ h)) ∙ count_next

      pub coded : length (tokens next t) ≤ token_limit → (n : ℕ) (s : List ℕ) → length s ≡ list_limit → n ≤ list_limit → n ≡ length (fresh u next t) → take n s ≡ fresh u next t
          → taken (leaves (s ++ drop list_limit list) n) ≡ code_rule u next t list
      coded h n s long few size numbers =
          let front = take-append-le n s (drop list_limit list) (omega arith) ∙ numbers in
          let back = drop_at s (drop list_limit list) list_limit long in
          (λ i. taken (record { size = size i; numbers = front i; beyond = back i })) ∙ sym (cond-false _ _ _ (le-ltb _ _ h)) ∙ count_next
