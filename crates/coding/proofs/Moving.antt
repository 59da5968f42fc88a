-- Lines and columns, one byte on and one part after another. Assumes nothing.
use Rattle.std.proofs.Common.{◌≡◌, ℕ, zero, suc, ◌+◌, ◌-◌, ◌*◌, ◌<◌, ◌≤◌, false, cond, List, [], ◌∷◌, length, get_or, drop, Some, None, Option, sym, refl, ap, ◌∙◌, arith}
use Rattle.std.proofs.lemmas.List.{drop_more}
use Rattle.std.proofs.lemmas.Bool.{cond-false, cond_both}
use Rattle.std.proofs.lemmas.Bool.Decides.{nat_tests}
use Rattle.utf8.specs.Characters.{first_char, First}
use Rattle.utf8.proofs.Firsts.{first_char_stands}
use Rattle.text.specs.Units.{Counts}
use Rattle.text.specs.Lines.{is_end, ends, ends_at}
use Rattle.text.specs.Columns.{counted, wide, units_of}
use Rattle.coding.specs.Placing.{line_of, column_of}

-- a character counts at most 4 units
pub wide_few : (u : ℕ → ℕ) (largest : ℕ) → Counts u largest → (bs : List ℕ) → wide u bs ≤ 4
unfolding wide
wide_few u largest laws bs = by (first_char bs) (first_char_stands bs)
  where
    by : (o : Option ℕ) → First bs o → counted u o ≤ 4
    by None f = omega arith
    by (Some c) f = omega (arith, laws.high c f.is_scalar, laws.few)

-- a place behind another: the line and column there, counted on

line_empty : (q : ℕ) → line_of [] q ≡ 0
line_empty zero = refl
line_empty (suc q) = refl

column_empty : (u : ℕ → ℕ) (q c : ℕ) → column_of u [] q c ≡ c
column_empty u zero c = refl
column_empty u (suc q) c = refl

line_split : (t : List ℕ) (p q : ℕ) → line_of t p + line_of (drop p t) q ≡ line_of t (p + q)
line_split t zero q = let e : 0 + q ≡ q = omega arith in omega (arith, ap (line_of t) e)
line_split [] (suc p) q =
    let e : suc p + q ≡ suc (p + q) = omega arith in
    omega (arith, line_empty q, ap (line_of []) e)
line_split (b ∷ t) (suc p) q =
    let e : suc p + q ≡ suc (p + q) = omega arith in
    omega (arith, line_split t p q, ap (line_of (b ∷ t)) e)

pub column_split : (u : ℕ → ℕ) (t : List ℕ) (p q c : ℕ) → column_of u (drop p t) q (column_of u t p c) ≡ column_of u t (p + q) c
column_split u t zero q c = let e : q ≡ 0 + q = omega arith in ap (λ (n : ℕ). column_of u t n c) e
column_split u [] (suc p) q c =
    let e : suc (p + q) ≡ suc p + q = omega arith in
    column_empty u q c ∙ ap (λ (n : ℕ). column_of u [] n c) e
column_split u (b ∷ t) (suc p) q c =
    let e : suc (p + q) ≡ suc p + q = omega arith in
    column_split u t p q _ ∙ ap (λ (n : ℕ). column_of u (b ∷ t) n c) e

module _ (t : List ℕ) (at to : ℕ) (l : at ≤ to) where
  whole : at + (to - at) ≡ to
  whole = omega arith

  pub line_to : line_of t at + line_of (drop at t) (to - at) ≡ line_of t to
  line_to = line_split t at (to - at) ∙ ap (line_of t) whole

  pub column_to : (u : ℕ → ℕ) (c : ℕ) → column_of u (drop at t) (to - at) (column_of u t at c) ≡ column_of u t to c
  column_to u c = column_split u t at (to - at) c ∙ ap (λ (n : ℕ). column_of u t n c) whole

-- one byte on
module _ (t : List ℕ) (at : ℕ) (l : at < length t) where
  here : drop at t ≡ get_or t at 0 ∷ drop (at + 1) t
  here = drop_more t at 0 l

  pub line_more : line_of t (at + 1) ≡ line_of t at + cond (ends_at (drop at t)) 1 0
  line_more = sym (line_split t at 1) ∙ ap (λ s. line_of t at + line_of s 1) here ∙ omega (arith, ap (λ s. cond {A = ℕ} (ends_at s) 1 0) here)

  pub column_more : (u : ℕ → ℕ) → column_of u t (at + 1) 0 ≡ cond (ends_at (drop at t)) 0 (column_of u t at 0 + wide u (drop at t))
  column_more u = sym (column_split u t at 1 0) ∙ ap (λ s. column_of u s 1 (column_of u t at 0)) here ∙ sym (ap (λ s. cond (ends_at s) 0 (column_of u t at 0 + wide u s)) here)

-- the same on the way from any place, and from any column there
module _ (t : List ℕ) (at to : ℕ) (l : at < to) (h : to ≤ length t) where
  left : to - at ≡ suc (to - (at + 1))
  left = omega arith

  one : drop at t ≡ get_or t at 0 ∷ drop (at + 1) t
  one = here t at (omega arith)

  pub line_onward : line_of (drop at t) (to - at) ≡ cond (ends_at (drop at t)) 1 0 + line_of (drop (at + 1) t) (to - (at + 1))
  line_onward = ap (line_of (drop at t)) left ∙ ap (λ s. line_of s (suc (to - (at + 1)))) one ∙ ap (λ b. cond b 1 0 + line_of (drop (at + 1) t) (to - (at + 1))) (sym (ap ends_at one))

  pub column_onward : (u : ℕ → ℕ) (c : ℕ) → column_of u (drop at t) (to - at) c ≡ column_of u (drop (at + 1) t) (to - (at + 1)) (cond (ends_at (drop at t)) 0 (c + wide u (drop at t)))
  column_onward u c =
      ap (λ (n : ℕ). column_of u (drop at t) n c) left ∙ ap (λ s. column_of u s (suc (to - (at + 1))) c) one
      ∙ sym (λ i. column_of u (drop (at + 1) t) (to - (at + 1)) (cond (ends_at (one i)) 0 (c + wide u (one i))))

no_end : (b : ℕ) (t : List ℕ) → is_end b ≡ false → ends b t ≡ false
no_end b [] e = e
no_end b (c ∷ t) e = grind (arith, nat_tests, e)

-- bytes of one line add their units to the column
pub column_flat : (u : ℕ → ℕ) (s : List ℕ) (n c : ℕ) → n ≤ length s → ((i : ℕ) → i < n → is_end (get_or s i 0) ≡ false) → column_of u s n c ≡ c + units_of u s n
column_flat u s zero c l h = omega arith
column_flat u [] (suc n) c l h = absurd (omega arith)
column_flat u (b ∷ s) (suc n) c l h =
    let w = wide u (b ∷ s) in
    let e = cond-false (ends b s) 0 (c + w) (no_end b s (h 0 (omega arith))) in
    ap (column_of u s n) e ∙ column_flat u s n (c + w) (omega arith) (λ i k. h (suc i) (omega arith)) ∙ omega arith

-- no more lines than bytes, and four units for each at most

pub line_le : (t : List ℕ) (p : ℕ) → line_of t p ≤ length t
line_le t zero = omega arith
line_le [] (suc p) = omega arith
line_le (b ∷ t) (suc p) = let h = line_le t p in cond_both {A = ℕ} (ends b t) 1 0 (λ z. z + line_of t p ≤ suc (length t)) (λ e. omega arith) (λ e. omega arith)

module _ (u : ℕ → ℕ) (largest : ℕ) (laws : Counts u largest) where
  pub column_le : (t : List ℕ) (p c : ℕ) → column_of u t p c ≤ c + 4 * length t
  column_le t zero c = omega arith
  column_le [] (suc p) c = omega arith
  column_le (b ∷ t) (suc p) c =
      let w = wide_few u largest laws (b ∷ t) in
      cond_both {A = ℕ} (ends b t) 0 (c + wide u (b ∷ t)) (λ z. column_of u t p z ≤ c + 4 * suc (length t)) (λ e. omega (arith, column_le t p 0)) (λ e. omega (arith, column_le t p (c + wide u (b ∷ t))))
