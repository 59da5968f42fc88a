-- Laws of `seek` and `line_units`: what each says of the text from a place on, by the byte there. Assumes nothing.
use Rattle.std.proofs.Common.{◌≡◌, ℕ, ◌+◌, ◌-◌, ◌<◌, ◌≤◌, true, false, cond, eqb, ltb, ◌⊎◌, List, ◌∷◌, length, get_or, drop, Some, None, Option, sym, ap, ◌∙◌, inl, inr, arith}
use Rattle.std.proofs.lemmas.List.{drop_more, drop_all}
use Rattle.std.proofs.lemmas.Bool.{cond-true, cond-false, eq-eqb, ne_eqb, lt-ltb, le-ltb, cases_eq}
use Rattle.text.specs.Lines.{is_end, later, ahead}
use Rattle.text.specs.Columns.{wide, line_units, seek}
use Rattle.text.proofs.Counting.{ahead_later, ahead_here}

module _ (u : ℕ → ℕ) (t : List ℕ) (at : ℕ) where
  pub seek_all : (c : ℕ) → length t ≤ at → ahead at (seek u (drop at t) c) ≡ Some at
  seek_all c l = ap (λ r. ahead at (seek u r c)) (drop_all at t l) ∙ ahead_here at

  pub units_all : length t ≤ at → line_units u (drop at t) ≡ 0
  units_all l = ap (line_units u) (drop_all at t l)

  module _ (l : at < length t) where
    split : drop at t ≡ get_or t at 0 ∷ drop (at + 1) t
    split = drop_more t at 0 l

    pub seek_stop : (c : ℕ) → is_end (get_or t at 0) ≡ true → ahead at (seek u (drop at t) c) ≡ Some at
    seek_stop c e = ap (λ r. ahead at (seek u r c)) split ∙ ap (ahead at) (cond-true _ _ _ e) ∙ ahead_here at

    pub units_stop : is_end (get_or t at 0) ≡ true → line_units u (drop at t) ≡ 0
    units_stop e = ap (line_units u) split ∙ cond-true _ _ _ e

    module _ (e : is_end (get_or t at 0) ≡ false) (w : ℕ) (is : w ≡ wide u (drop at t)) where
      wide_is : wide u (get_or t at 0 ∷ drop (at + 1) t) ≡ w
      wide_is = ap (wide u) (sym split) ∙ sym is

      pub units_more : line_units u (drop at t) ≡ w + line_units u (drop (at + 1) t)
      units_more = ap (line_units u) split ∙ cond-false _ _ _ e ∙ ap (λ n. n + line_units u (drop (at + 1) t)) wide_is

      -- what `seek` tests at a byte of the content
      abbrev rest : ℕ → ℕ → Option ℕ
      rest c n =
          cond (eqb n 0) (later (seek u (drop (at + 1) t) c))
          (cond (eqb c 0) (Some 0) (cond (ltb c n) None (later (seek u (drop (at + 1) t) (c - n)))))

      seek_here : (c : ℕ) → seek u (drop at t) c ≡ rest c w
      seek_here c = ap (λ r. seek u r c) split ∙ cond-false _ _ _ e ∙ ap (rest c) wide_is

      pub seek_found : (c : ℕ) → 0 < w → c ≡ 0 → ahead at (seek u (drop at t) c) ≡ Some at
      seek_found c p z =
          ap (ahead at) (seek_here c ∙ cond-false _ _ _ (ne_eqb w 0 (λ q. omega arith)) ∙ cond-true _ _ _ (eq-eqb c 0 z)) ∙ ahead_here at

      pub seek_inside : (c : ℕ) → c < w → (c ≡ 0 → ⊥) → ahead at (seek u (drop at t) c) ≡ None
      seek_inside c p z =
          ap (ahead at) (seek_here c ∙ cond-false _ _ _ (ne_eqb w 0 (λ q. omega arith)) ∙ cond-false _ _ _ (ne_eqb c 0 z) ∙ cond-true _ _ _ (lt-ltb c w p))

      pub seek_more : (c : ℕ) → w ≤ c → (0 < w → c ≡ 0 → ⊥) → ahead at (seek u (drop at t) c) ≡ ahead (at + 1) (seek u (drop (at + 1) t) (c - w))
      seek_more c p z = ap (ahead at) (seek_here c ∙ by (cases_eq w 0)) ∙ ahead_later at _
        where
          by : (w ≡ 0) ⊎ (w ≡ 0 → ⊥) → rest c w ≡ later (seek u (drop (at + 1) t) (c - w))
          by (inl q) = let k : c ≡ c - w = omega arith in cond-true _ _ _ (eq-eqb w 0 q) ∙ ap (λ (n : ℕ). later (seek u (drop (at + 1) t) n)) k
          by (inr q) = cond-false _ _ _ (ne_eqb w 0 q) ∙ cond-false _ _ _ (ne_eqb c 0 (z (omega arith))) ∙ cond-false _ _ _ (le-ltb c w p)
