-- How `seek` and the units counted go together. Assumes nothing.
use Rattle.std.proofs.Common.{◌≡◌, ℕ, zero, suc, ◌+◌, ◌-◌, ◌<◌, ◌≤◌, min, Bool, true, false, cond, eqb, ltb, List, [], ◌∷◌, length, Some, None, Option, sym, refl, ap, ◌∙◌, subst, ⊎_elim, arith}
use Rattle.std.specs.Str.{IsCharBoundary}
use Rattle.std.proofs.lemmas.Str.{IsCharBoundary-before_ascii}
use Rattle.std.proofs.lemmas.Bool.{cond-true, cond-false, eq-eqb, ne_eqb, eqb-true, eqb-false, le-ltb, ltb-true, ltb-false, cases_lt}
use Rattle.std.proofs.lemmas.Bool.Decides.{nat_tests}
use Rattle.utf8.specs.Characters.{first_char, First}
use Rattle.text.specs.Lines.{is_end, later, content}
use Rattle.text.specs.Columns.{counted, wide, units_of, line_units, seek}
use Rattle.utf8.proofs.Chars.{RangedAt, ranged}
use Rattle.utf8.proofs.Firsts.{first_char_stands}

-- what `seek` came to at the first byte: the place is here, or inside a character, or further on
pub data Step (u : ℕ → ℕ) (b : ℕ) (t : List ℕ) (c : ℕ) : Option ℕ → Type 0 where
  stops : is_end b ≡ true → Step u b t c (Some 0)
  skips : is_end b ≡ false → wide u (b ∷ t) ≡ 0 → Step u b t c (later (seek u t c))
  found : is_end b ≡ false → 0 < wide u (b ∷ t) → c ≡ 0 → Step u b t c (Some 0)
  within : is_end b ≡ false → c < wide u (b ∷ t) → (c ≡ 0 → ⊥) → Step u b t c None
  counts : is_end b ≡ false → wide u (b ∷ t) ≤ c → (c ≡ 0 → ⊥) → Step u b t c (later (seek u t (c - wide u (b ∷ t))))

pub step : (u : ℕ → ℕ) (b : ℕ) (t : List ℕ) (c : ℕ) → Step u b t c (seek u (b ∷ t) c)
step u b t c = by_end (is_end b) refl
  where
    w : ℕ
    w = wide u (b ∷ t)

    by_size : is_end b ≡ false → (w ≡ 0 → ⊥) → (c ≡ 0 → ⊥) → (v : Bool) → ltb c w ≡ v → Step u b t c (cond v None (later (seek u t (c - w))))
    by_size e n z true l = within e (ltb-true c w l) z
    by_size e n z false l = counts e (ltb-false c w l) z

    by_zero : is_end b ≡ false → (w ≡ 0 → ⊥) → (v : Bool) → eqb c 0 ≡ v → Step u b t c (cond v (Some 0) (cond (ltb c w) None (later (seek u t (c - w)))))
    by_zero e n true z = found e (omega arith) (eqb-true c 0 z)
    by_zero e n false z = by_size e n (eqb-false c 0 z) (ltb c w) refl

    by_wide : is_end b ≡ false → (v : Bool) → eqb w 0 ≡ v → Step u b t c (cond v (later (seek u t c)) (cond (eqb c 0) (Some 0) (cond (ltb c w) None (later (seek u t (c - w))))))
    by_wide e true n = skips e (eqb-true w 0 n)
    by_wide e false n = by_zero e (eqb-false w 0 n) (eqb c 0) refl

    by_end : (v : Bool) → is_end b ≡ v → Step u b t c (cond v (Some 0) (cond (eqb w 0) (later (seek u t c)) (cond (eqb c 0) (Some 0) (cond (ltb c w) None (later (seek u t (c - w)))))))
    by_end true e = stops e
    by_end false e = by_wide e (eqb w 0) refl

later_is : (o : Option ℕ) (m : ℕ) → later o ≡ Some m → (n : ℕ) × (o ≡ Some n) × (m ≡ suc n)
later_is None m e = absurd (cc)
later_is (Some n) m e = (n, refl, cc)

later_none : (o : Option ℕ) → later o ≡ None → o ≡ None
later_none None e = refl
later_none (Some n) e = absurd (cc)

module _ (u : ℕ → ℕ) where
  abbrev Counted : List ℕ → ℕ → ℕ → Type 0
  Counted t c m = units_of u t m ≡ min c (line_units u t)

  counted_step : (b : ℕ) (t : List ℕ) (c m : ℕ) (o : Option ℕ) → ((d n : ℕ) → seek u t d ≡ Some n → Counted t d n) → Step u b t c o → o ≡ Some m → Counted (b ∷ t) c m
  counted_step b t c m o ih (stops e) q =
      let z : 0 ≡ m = cc in
      subst (Counted (b ∷ t) c) z (omega (arith, cond-true {A = ℕ} (is_end b) 0 (wide u (b ∷ t) + line_units u t) e))
  counted_step b t c m o ih (skips e w) q =
      let n = later_is _ m q in
      subst (Counted (b ∷ t) c) (sym n.2) (omega (arith, cond-false {A = ℕ} (is_end b) 0 (wide u (b ∷ t) + line_units u t) e, ih c n.0 n.1))
  counted_step b t c m o ih (found e w z) q =
      let y : 0 ≡ m = cc in
      subst (Counted (b ∷ t) c) y (omega arith)
  counted_step b t c m o ih (within e l z) q = let y : ◌≡◌ {A = ℕ} 0 1 = cc in absurd (omega arith)
  counted_step b t c m o ih (counts e l z) q =
      let n = later_is _ m q in
      subst (Counted (b ∷ t) c) (sym n.2) (omega (arith, cond-false {A = ℕ} (is_end b) 0 (wide u (b ∷ t) + line_units u t) e, ih (c - wide u (b ∷ t)) n.0 n.1))

  -- the bytes that `seek` goes count the column, or the line's units if it has fewer
  pub seek_counts : (t : List ℕ) (c m : ℕ) → seek u t c ≡ Some m → Counted t c m
  seek_counts [] c m e = let z : 0 ≡ m = cc in subst (Counted [] c) z (omega arith)
  seek_counts (b ∷ t) c m e = counted_step b t c m (seek u (b ∷ t) c) (λ d n q. seek_counts t d n q) (step u b t c) e

  seek_zero : (t : List ℕ) → seek u t 0 ≡ None → ⊥
  seek_zero [] e = let z : ◌≡◌ {A = ℕ} 0 1 = cc in omega arith
  seek_zero (b ∷ t) e = by (seek u (b ∷ t) 0) (λ q. seek_zero t q) (step u b t 0) e
    where
      by : (o : Option ℕ) → (seek u t 0 ≡ None → ⊥) → Step u b t 0 o → o ≡ None → ⊥
      by o ih (stops x) q = let z : ◌≡◌ {A = ℕ} 0 1 = cc in omega arith
      by o ih (skips x w) q = ih (later_none _ q)
      by o ih (found x w z) q = let z : ◌≡◌ {A = ℕ} 0 1 = cc in omega arith
      by o ih (within x l z) q = z refl
      by o ih (counts x l z) q = z refl

  abbrev Never : List ℕ → ℕ → Type 0
  Never t c = (n : ℕ) → units_of u t n ≡ c → n ≤ length (content t) → ⊥

  never_step : (b : ℕ) (t : List ℕ) (c : ℕ) (o : Option ℕ) → ((d : ℕ) → seek u t d ≡ None → Never t d) → Step u b t c o → o ≡ None → Never (b ∷ t) c
  never_step b t c o ih (stops e) q n k l = let z : ◌≡◌ {A = ℕ} 0 1 = cc in omega arith
  never_step b t c o ih (found e w z) q n k l = let z : ◌≡◌ {A = ℕ} 0 1 = cc in omega arith
  never_step b t c o ih (skips e w) q zero k l = seek_zero t (later_none _ (ap (λ d. later (seek u t d)) k ∙ q))
  never_step b t c o ih (skips e w) q (suc n) k l =
      ih c (later_none _ q) n (omega arith) (omega (arith, ap length (cond-false _ [] (b ∷ content t) e)))
  never_step b t c o ih (within e s z) q zero k l = z (sym k)
  never_step b t c o ih (within e s z) q (suc n) k l = omega arith
  never_step b t c o ih (counts e s z) q zero k l = z (sym k)
  never_step b t c o ih (counts e s z) q (suc n) k l =
      ih (c - wide u (b ∷ t)) (later_none _ q) n (omega arith) (omega (arith, ap length (cond-false _ [] (b ∷ content t) e)))

  -- where it falls inside a character, no part of the line counts the column
  pub seek_never : (t : List ℕ) (c : ℕ) → seek u t c ≡ None → Never t c
  seek_never [] c e = absurd (cc)
  seek_never (b ∷ t) c e = never_step b t c (seek u (b ∷ t) c) (λ d q. seek_never t d q) (step u b t c) e

  -- a character that begins somewhere begins where the text may be cut
  wide_boundary : (bs : List ℕ) → 0 < wide u bs → IsCharBoundary bs 0
  unfolding wide
  wide_boundary bs l = by (first_char bs) (first_char_stands bs) l
    where
      by : (o : Option ℕ) → First bs o → 0 < counted u o → IsCharBoundary bs 0
      by None f l = absurd (omega arith)
      by (Some c) f l =
          let r : RangedAt bs = subst RangedAt (sym f.splits) (ranged c _ f.is_scalar) in
          (omega arith, λ k h. omega (arith, (r.second h).1.least))

  next_boundary : (b : ℕ) (t : List ℕ) (m n : ℕ) → m ≡ suc n → IsCharBoundary t n → IsCharBoundary (b ∷ t) m
  next_boundary b t m n e h = subst (IsCharBoundary (b ∷ t)) (sym e) (omega (arith, h.0), λ k. h.1 (omega arith))

  boundary_step : (b : ℕ) (t : List ℕ) (c m : ℕ) (o : Option ℕ) → ((d n : ℕ) → seek u t d ≡ Some n → IsCharBoundary t n) → Step u b t c o → o ≡ Some m → IsCharBoundary (b ∷ t) m
  boundary_step b t c m o ih (stops e) q =
      let z : 0 ≡ m = cc in
      let low : b < 128 = grind (arith, nat_tests, e) in
      subst (IsCharBoundary (b ∷ t)) z (IsCharBoundary-before_ascii (b ∷ t) 0 (omega arith) low)
  boundary_step b t c m o ih (skips e w) q = let n = later_is _ m q in next_boundary b t m n.0 n.2 (ih c n.0 n.1)
  boundary_step b t c m o ih (found e w z) q = let y : 0 ≡ m = cc in subst (IsCharBoundary (b ∷ t)) y (wide_boundary (b ∷ t) w)
  boundary_step b t c m o ih (within e l z) q = let y : ◌≡◌ {A = ℕ} 0 1 = cc in absurd (omega arith)
  boundary_step b t c m o ih (counts e l z) q = let n = later_is _ m q in next_boundary b t m n.0 n.2 (ih (c - wide u (b ∷ t)) n.0 n.1)

  -- `seek` ends where a text may be cut
  pub seek_boundary : (t : List ℕ) (c m : ℕ) → seek u t c ≡ Some m → IsCharBoundary t m
  seek_boundary [] c m e = let z : 0 ≡ m = cc in subst (IsCharBoundary []) z (omega arith, λ k. absurd (omega arith))
  seek_boundary (b ∷ t) c m e = boundary_step b t c m (seek u (b ∷ t) c) (λ d n q. seek_boundary t d n q) (step u b t c) e

  -- the units past a line's content do not matter

  abbrev inner : List ℕ → ℕ → ℕ → Option ℕ
  inner t w c = cond (eqb w 0) (later (seek u t c)) (cond (eqb c 0) (Some 0) (cond (ltb c w) None (later (seek u t (c - w)))))

  inner_deep : (t : List ℕ) (w c : ℕ) → 0 < w → w ≤ c → inner t w c ≡ later (seek u t (c - w))
  inner_deep t w c p l = cond-false _ _ _ (ne_eqb w 0 (λ e. omega arith)) ∙ cond-false _ _ _ (ne_eqb c 0 (λ e. omega arith)) ∙ cond-false _ _ _ (le-ltb c w l)

  inner_cut : (t : List ℕ) (w c n : ℕ) → ((d : ℕ) → seek u t (min d n) ≡ seek u t d) → inner t w (min c (w + n)) ≡ inner t w c
  inner_cut t w c n h =
      ⊎_elim
      (λ none.
      let e : min c (w + n) ≡ min c n = omega arith in
      let z = eq-eqb w 0 (omega arith) in
      cond-true _ _ _ z ∙ ap later (ap (seek u t) e ∙ h c) ∙ sym (cond-true _ _ _ z))
      (λ some.
      ⊎_elim
      (λ lt.
      let e : min c (w + n) - w ≡ min (c - w) n = omega arith in
      inner_deep t w (min c (w + n)) (omega arith) (omega arith) ∙ ap later (ap (seek u t) e ∙ h (c - w)) ∙ sym (inner_deep t w c (omega arith) (omega arith)))
      (λ ge. let e : min c (w + n) ≡ c = omega arith in ap (inner t w) e)
      (cases_lt w c))
      (cases_lt w 1)

  pub seek_cut : (t : List ℕ) (c : ℕ) → seek u t (min c (line_units u t)) ≡ seek u t c
  seek_cut [] c = refl
  seek_cut (b ∷ t) c =
      elim (is_end b) as (λ v. cond v (Some 0) (inner t (wide u (b ∷ t)) (min c (cond v 0 (wide u (b ∷ t) + line_units u t)))) ≡ cond v (Some 0) (inner t (wide u (b ∷ t)) c)) [
        | true ↦ refl
        | false ↦ inner_cut t (wide u (b ∷ t)) c (line_units u t) (seek_cut t)
      ]
