-- The bytes of a character. Assumes nothing.
use Rattle.std.proofs.Common.{◌≡◌, ℕ, ◌+◌, ◌-◌, ◌*◌, ◌/◌, ◌^◌, ◌<◌, ◌≤◌, true, ltb, ◌⊎◌, List, [], ◌∷◌, ◌++◌, length, get_or, drop, sym, ap, ◌∙◌, subst, inl, inr, ⊎_elim, lt_of_lt_of_le, arith, length-append, drop_at, pow_mono}
use lib.Count.{count_leading_zeros}
use lib.Utf8.{scalar, encode, next, low_scalar, scalar_cases}
use Rattle.std.specs.Char.{len_utf8}
use Rattle.std.proofs.lemmas.Str.{length-encode, len_utf8_bounds}
use Rattle.std.proofs.lemmas.Bool.{cond-true, cond-false, lt-ltb, le-ltb, cases_lt, cases_eq}
use Rattle.std.proofs.lemmas.Bool.Decides.{nat_tests}
use Rattle.std.proofs.lemmas.Nat.{leading_length, leading_le}
use Rattle.utf8.specs.Characters.{NoChar, Begins, Second}

-- `encode` in each range
pub enc_one : (c : ℕ) → c < 128 → encode c ≡ c ∷ []
unfolding encode
enc_one c h = cond-true (ltb c 128) _ _ (lt-ltb c 128 h)

pub enc_two : (c : ℕ) → 128 ≤ c → c < 2048 → encode c ≡ (192 + c / 64) ∷ next c ∷ []
unfolding encode
enc_two c l h = cond-false (ltb c 128) _ _ (le-ltb c 128 l) ∙ cond-true (ltb c 2048) _ _ (lt-ltb c 2048 h)

pub enc_three : (c : ℕ) → 2048 ≤ c → c < 65536 → encode c ≡ (224 + c / 4096) ∷ next (c / 64) ∷ next c ∷ []
unfolding encode
enc_three c l h = cond-false (ltb c 128) _ _ (le-ltb c 128 (omega arith)) ∙ cond-false (ltb c 2048) _ _ (le-ltb c 2048 l) ∙ cond-true (ltb c 65536) _ _ (lt-ltb c 65536 h)

pub enc_four : (c : ℕ) → 65536 ≤ c → encode c ≡ (240 + c / 262144) ∷ next (c / 4096) ∷ next (c / 64) ∷ next c ∷ []
unfolding encode
enc_four c l = cond-false (ltb c 128) _ _ (le-ltb c 128 (omega arith)) ∙ cond-false (ltb c 2048) _ _ (le-ltb c 2048 (omega arith)) ∙ cond-false (ltb c 65536) _ _ (le-ltb c 65536 l)

abbrev pub Follows : ℕ → Type 0
Follows b = (128 ≤ b) × (b < 192)

-- of n bytes x, y, z, w .. that begin with a character
pub record Ranged (n x y z w : ℕ) : Type 0 where
  pub second : 128 ≤ x → (1 < n) × Second x y
  pub third : 224 ≤ x → (2 < n) × Follows z
  pub fourth : 240 ≤ x → (3 < n) × Follows w

abbrev pub RangedAt : List ℕ → Type 0
RangedAt l = Ranged (length l) (get_or l 0 0) (get_or l 1 0) (get_or l 2 0) (get_or l 3 0)

pub ranged : (c : ℕ) (r : List ℕ) → scalar c ≡ true → RangedAt (encode c ++ r)
ranged c r s = by (scalar_cases c s) (cases_lt c 128) (cases_lt c 2048) (cases_lt c 65536)
  where
    by : (c < 55296) ⊎ ((57344 ≤ c) × (c < 1114112)) → (c < 128) ⊎ (128 ≤ c) → (c < 2048) ⊎ (2048 ≤ c) → (c < 65536) ⊎ (65536 ≤ c) → RangedAt (encode c ++ r)
    by k (inl h) _ _ = subst (λ p. RangedAt (p ++ r)) (sym (enc_one c h)) (record { second = λ t. absurd (omega arith); third = λ t. absurd (omega arith); fourth = λ t. absurd (omega arith) })
    by k (inr l) (inl h) _ = subst (λ p. RangedAt (p ++ r)) (sym (enc_two c l h)) (record {
      second = λ t. (omega arith, record { least = omega arith; most = omega arith; low = omega arith; high = omega arith; e0 = λ e. absurd (omega arith); ed = λ e. absurd (omega arith); f0 = λ e. absurd (omega arith); f4 = λ e. absurd (omega arith) });
      third = λ t. absurd (omega arith);
      fourth = λ t. absurd (omega arith);
    })
    by k (inr _) (inr l) (inl h) = subst (λ p. RangedAt (p ++ r)) (sym (enc_three c l h)) (record {
      second = λ t. (omega arith, record { least = omega arith; most = omega arith; low = omega arith; high = omega arith; e0 = λ e. omega arith; ed = λ e. ⊎_elim (λ q. omega arith) (λ q. omega arith) k; f0 = λ e. absurd (omega arith); f4 = λ e. absurd (omega arith) });
      third = λ t. (omega arith, omega arith);
      fourth = λ t. absurd (omega arith);
    })
    by k (inr _) (inr _) (inr l) = let top : c < 1114112 = ⊎_elim (λ q. omega arith) (λ q. omega arith) k in subst (λ p. RangedAt (p ++ r)) (sym (enc_four c l)) (record {
      second = λ t. (omega arith, record { least = omega arith; most = omega arith; low = omega arith; high = omega arith; e0 = λ e. absurd (omega arith); ed = λ e. absurd (omega arith); f0 = λ e. omega arith; f4 = λ e. omega arith });
      third = λ t. (omega arith, omega arith);
      fourth = λ t. (omega arith, omega arith);
    })

pub begins_from : (l r : List ℕ) (c : ℕ) → scalar c ≡ true → l ≡ encode c ++ r → Begins l c
begins_from l r c s e =
    let w : length (encode c) ≡ len_utf8 c = length-encode c in
    let n : length l ≡ length (encode c) + length r = ap length e ∙ length-append (encode c) r in
    let d : drop (len_utf8 c) l ≡ r = ap (drop (len_utf8 c)) e ∙ drop_at (encode c) r (len_utf8 c) w in
    record { is_scalar = s; fits = omega arith; splits = e ∙ ap (λ t. encode c ++ t) (sym d) }

-- bytes that are out of the ranges begin no character
pub no_char : (bs : List ℕ) → (RangedAt bs → ⊥) → NoChar bs
no_char bs h c r s e = h (subst RangedAt (sym e) (ranged c r s))

-- no bytes begin none
pub none_begins : (bs : List ℕ) → length bs < 1 → NoChar bs
none_begins bs l c r s e =
    let n : length bs ≡ len_utf8 c + length r = ap length e ∙ length-append (encode c) r ∙ ap (λ m. m + length r) (length-encode c) in
    omega (arith, len_utf8_bounds c)

-- bytes in the ranges make a character
pub begins_one : (bs : List ℕ) → 0 < length bs → get_or bs 0 0 < 128 → Begins bs (get_or bs 0 0)
begins_one [] l h = absurd (omega arith)
begins_one (a ∷ r) l h = begins_from _ r a (low_scalar a (omega arith)) (ap (λ p. p ++ r) (sym (enc_one a h)))

pub begins_two : (bs : List ℕ) → 1 < length bs → get_or bs 0 0 < 224 → Second (get_or bs 0 0) (get_or bs 1 0) → Begins bs ((get_or bs 0 0 - 192) * 64 + (get_or bs 1 0 - 128))
begins_two [] l u s = absurd (omega arith)
begins_two (x ∷ []) l u s = absurd (omega arith)
begins_two (x ∷ y ∷ r) l u s =
    let c : ℕ = (x - 192) * 64 + (y - 128) in
    let p : x ≡ 192 + c / 64 = omega arith in
    let q : y ≡ next c = omega arith in
    begins_from _ r c (low_scalar c (omega arith)) ((λ k. p k ∷ q k ∷ r) ∙ ap (λ t. t ++ r) (sym (enc_two c (omega arith) (omega arith))))

pub begins_three : (bs : List ℕ) → 2 < length bs → 224 ≤ get_or bs 0 0 → get_or bs 0 0 < 240 → Second (get_or bs 0 0) (get_or bs 1 0) → Follows (get_or bs 2 0)
    → Begins bs ((get_or bs 0 0 - 224) * 4096 + (get_or bs 1 0 - 128) * 64 + (get_or bs 2 0 - 128))
begins_three [] l h u s f = absurd (omega arith)
begins_three (x ∷ []) l h u s f = absurd (omega arith)
begins_three (x ∷ y ∷ []) l h u s f = absurd (omega arith)
begins_three (x ∷ y ∷ z ∷ r) l h u s f =
    let c : ℕ = (x - 224) * 4096 + (y - 128) * 64 + (z - 128) in
    let lo : 2048 ≤ c = ⊎_elim (λ e. omega (arith, s.e0 e)) (λ e. omega arith) (cases_eq x 224) in
    let range : (c < 55296) ⊎ (57344 ≤ c) = ⊎_elim (λ e. inl (omega (arith, s.ed e))) (λ e. ⊎_elim (λ g. inl (omega arith)) (λ g. inr (omega arith)) (cases_lt x 237)) (cases_eq x 237) in
    let p : x ≡ 224 + c / 4096 = omega arith in
    let q : y ≡ next (c / 64) = omega arith in
    let t : z ≡ next c = omega arith in
    begins_from _ r c (grind (arith, nat_tests)) ((λ k. p k ∷ q k ∷ t k ∷ r) ∙ ap (λ t. t ++ r) (sym (enc_three c lo (omega arith))))

pub begins_four : (bs : List ℕ) → 3 < length bs → 240 ≤ get_or bs 0 0 → Second (get_or bs 0 0) (get_or bs 1 0) → Follows (get_or bs 2 0) → Follows (get_or bs 3 0)
    → Begins bs (((get_or bs 0 0 - 240) * 64 + (get_or bs 1 0 - 128)) * 4096 + (get_or bs 2 0 - 128) * 64 + (get_or bs 3 0 - 128))
begins_four [] l h s f g = absurd (omega arith)
begins_four (x ∷ []) l h s f g = absurd (omega arith)
begins_four (x ∷ y ∷ []) l h s f g = absurd (omega arith)
begins_four (x ∷ y ∷ z ∷ []) l h s f g = absurd (omega arith)
begins_four (x ∷ y ∷ z ∷ w ∷ r) l h s f g =
    let c : ℕ = ((x - 240) * 64 + (y - 128)) * 4096 + (z - 128) * 64 + (w - 128) in
    let lo : 65536 ≤ c = ⊎_elim (λ e. omega (arith, s.f0 e)) (λ e. omega arith) (cases_eq x 240) in
    let hi : c < 1114112 = ⊎_elim (λ e. omega (arith, s.f4 e)) (λ e. omega arith) (cases_eq x 244) in
    let p : x ≡ 240 + c / 262144 = omega arith in
    let q : y ≡ next (c / 4096) = omega arith in
    let e : c / 64 ≡ ((x - 240) * 64 + (y - 128)) * 64 + (z - 128) = omega arith in
    let t : z ≡ next (c / 64) = subst (λ (m : ℕ). z ≡ next m) (sym e) (omega arith) in
    let v : w ≡ next c = omega arith in
    begins_from _ r c (grind (arith, nat_tests)) ((λ k. p k ∷ q k ∷ t k ∷ v k ∷ r) ∙ ap (λ t. t ++ r) (sym (enc_four c lo)))

module _ (b k : ℕ) (byte : b < 256) (is : k ≡ count_leading_zeros 8 (255 - b)) where
  pub at_ones : (n : ℕ) → k + n ≡ 8 → (255 - b < 2 ^ n) × (2 ^ n ≤ 2 * (255 - b) + 1)
  at_ones n p =
      let t = leading_length 8 (255 - b) (omega arith) in
      let q : t.0 ≡ n = omega (arith, t.1) in
      (subst (λ (m : ℕ). 255 - b < 2 ^ m) q t.2, subst (λ (m : ℕ). 2 ^ m ≤ 2 * (255 - b) + 1) q t.3)

  -- a first byte with another count begins no character
  pub other_ones : (k ≡ 0 → ⊥) → (k ≡ 2 → ⊥) → (k ≡ 3 → ⊥) → (k ≡ 4 → ⊥) → (128 ≤ b) × (194 ≤ b → b < 245 → ⊥)
  other_ones n0 n2 n3 n4 =
      let m : k ≤ 8 = omega (arith, leading_le 8 (255 - b)) in
      ⊎_elim (λ e. let o = at_ones 7 (omega arith) in (omega arith, λ g l. omega arith))
      (λ f. let h : 5 ≤ k = omega arith in
      let t = leading_length 8 (255 - b) (omega arith) in
      let d : 255 - b < 8 = lt_of_lt_of_le t.2 (pow_mono {i = t.0} {j = 3} (omega (arith, t.1))) in (omega arith, λ g l. omega arith))
      (cases_eq k 1)
