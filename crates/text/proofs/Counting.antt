-- One byte on, for the loops over lines: each says the same of what is left as of the whole. Assumes nothing.
use Rattle.std.proofs.Common.{◌≡◌, ℕ, zero, suc, ◌+◌, ◌-◌, ◌<◌, ◌≤◌, Bool, true, false, cond, not, ◌&&◌, ◌||◌, eqb, ltb, List, [], ◌∷◌, length, get_or, take, drop, Some, None, Option, sym, refl, ap, ◌∙◌, arith, length-take}
use Rattle.std.specs.List.{position, position_or_len}
use Rattle.std.specs.Option.{unwrap_or}
use Rattle.std.proofs.lemmas.List.{at_drop_more, at_drop_all}
use Rattle.std.proofs.lemmas.Bool.{cond-true, cond-false, cond_both, ltb-false, ne_eqb}
use Rattle.std.specs.Bool.{then_some}
use Rattle.text.specs.Lines.{place_in, is_end, ends, ends_at, later, ahead, start_of, line_count, content}

pub ahead_later : (n : ℕ) (o : Option ℕ) → ahead n (later o) ≡ ahead (n + 1) o
ahead_later n None = refl
ahead_later n (Some m) = let e : n + suc m ≡ n + 1 + m = omega arith in ap Some e

pub ahead_none : (o : Option ℕ) → ahead 0 o ≡ o
ahead_none None = refl
ahead_none (Some m) = let e : 0 + m ≡ m = omega arith in ap Some e

pub ahead_here : (n : ℕ) → ahead n (Some 0) ≡ Some n
ahead_here n = let e : n + 0 ≡ n = omega arith in ap Some e

and_true : (b : Bool) → (b && true) ≡ b
and_true true = refl
and_true false = refl

-- the byte behind decides; past the end stands no LF
ends_at_lem : (b : ℕ) (t : List ℕ) (n : ℕ) → ends b (drop n t) ≡ (eqb b 10 || (eqb b 13 && not (eqb (get_or t n 0) 10)))
ends_at_lem b [] zero = ap (λ x. eqb b 10 || x) (sym (and_true (eqb b 13)))
ends_at_lem b [] (suc n) = ap (λ x. eqb b 10 || x) (sym (and_true (eqb b 13)))
ends_at_lem b (c ∷ t) zero = refl
ends_at_lem b (c ∷ t) (suc n) = ends_at_lem b t n

pub ends_here : (t : List ℕ) (n : ℕ) → n < length t → ends_at (drop n t) ≡ ends (get_or t n 0) (drop (n + 1) t)
ends_here t n l = at_drop_more ends_at t n 0 l

-- the same by the two bytes
pub ends_by : (t : List ℕ) (n : ℕ) → n < length t → ends_at (drop n t) ≡ (eqb (get_or t n 0) 10 || (eqb (get_or t n 0) 13 && not (eqb (get_or t (n + 1) 0) 10)))
ends_by t n l = ends_here t n l ∙ ends_at_lem (get_or t n 0) t (n + 1)

start_step : (b : ℕ) (t : List ℕ) (n : ℕ) → 0 < n → start_of (b ∷ t) n ≡ later (start_of t (cond (ends b t) (n - 1) n))
start_step b t zero l = absurd (omega arith)
start_step b t (suc k) l = ap later (by (ends b t))
  where
    by : (v : Bool) → cond v (start_of t k) (start_of t (suc k)) ≡ start_of t (cond v (suc k - 1) (suc k))
    by true = let e : k ≡ suc k - 1 = omega arith in ap (start_of t) e
    by false = refl

module _ (t : List ℕ) (at : ℕ) where
  pub start_more : (n : ℕ) → 0 < n → at < length t → ahead at (start_of (drop at t) n) ≡ ahead (at + 1) (start_of (drop (at + 1) t) (cond (ends (get_or t at 0) (drop (at + 1) t)) (n - 1) n))
  start_more n p l =
      ap (ahead at) (at_drop_more (λ r. start_of r n) t at 0 l ∙ start_step (get_or t at 0) (drop (at + 1) t) n p) ∙ ahead_later at _

  pub start_none : (n : ℕ) → 0 < n → length t ≤ at → start_of (drop at t) n ≡ None
  start_none n p l = at_drop_all (λ r. start_of r n) t at l ∙ by n p
    where
      by : (n : ℕ) → 0 < n → start_of [] n ≡ None
      by zero p = absurd (omega arith)
      by (suc n) p = refl

  pub count_more : at < length t → line_count (drop at t) ≡ cond (ends (get_or t at 0) (drop (at + 1) t)) 1 0 + line_count (drop (at + 1) t)
  count_more l = at_drop_more line_count t at 0 l

  pub count_all : length t ≤ at → line_count (drop at t) ≡ 1
  count_all l = at_drop_all line_count t at l

  pub content_on : at < length t → is_end (get_or t at 0) ≡ false → length (content (drop at t)) ≡ suc (length (content (drop (at + 1) t)))
  content_on l e = ap length (at_drop_more content t at 0 l ∙ cond-false _ _ _ e)

  pub content_stop : at < length t → is_end (get_or t at 0) ≡ true → length (content (drop at t)) ≡ 0
  content_stop l e = ap length (at_drop_more content t at 0 l ∙ cond-true _ _ _ e)

  pub content_all : length t ≤ at → length (content (drop at t)) ≡ 0
  content_all l = ap length (at_drop_all content t at l)

-- at the end of the text only the line starts that is next
pub line_end : (t : List ℕ) (at left : ℕ) → at ≡ length t → place_in (then_some (eqb left 0) (record { 0 = length t })) ≡ ahead at (start_of (drop at t) left)
line_end t at zero e = let k : length t ≡ at + 0 = omega arith in ap Some k
line_end t at (suc left) e = ap (λ b. place_in (then_some b (record { 0 = length t }))) (ne_eqb (suc left) 0 (λ z. omega arith)) ∙ ap (ahead at) (sym (start_none t at (suc left) (omega arith) (omega arith)))

cond_front : (v : Bool) (b : ℕ) (t c : List ℕ) → c ≡ take (length c) t → cond v [] (b ∷ c) ≡ take (length (cond v [] (b ∷ c))) (b ∷ t)
cond_front true b t c e = refl
cond_front false b t c e = ap (λ r. b ∷ r) e

-- a line's content is the front of what stands there
pub content_front : (t : List ℕ) → content t ≡ take (length (content t)) t
content_front [] = refl
content_front (b ∷ t) = cond_front (is_end b) b t (content t) (content_front t)

pub content_fits : (t : List ℕ) → length (content t) ≤ length t
content_fits t = omega (arith, ap length (content_front t), length-take (length (content t)) t)

-- a line's content goes on to the first byte of a line end, or to the end of the text
content_size : (t : List ℕ) → position_or_len is_end t ≡ length (content t)
content_size [] = refl
content_size (b ∷ t) =
    let h = content_size t in
    elim (is_end b) as (λ v. cond (not v) (1 + position_or_len is_end t) 0 ≡ length (cond {A = List ℕ} v [] (b ∷ content t))) [ true ↦ refl | false ↦ omega arith ]

content_end : (t : List ℕ) → unwrap_or (position is_end t) (length t) ≡ length (content t)
content_end t =
    let n : ℕ = position_or_len is_end t in
    let same = content_size t in
    let fits = content_fits t in
    cond_both (ltb n (length t)) (Some n) None (λ o. unwrap_or o (length t) ≡ length (content t)) (λ l. same) (λ l. omega (arith, ltb-false n (length t) l))

-- what is cut out from a place on, up to the first byte of a line end
pub content_cut : (t x : List ℕ) (n k : ℕ) (o : Option ℕ) → x ≡ drop n t → o ≡ position is_end x → k ≡ unwrap_or o (length x) → take (n + k - n) (drop n t) ≡ content (drop n t)
content_cut t x n k o rest first e =
    let size : k ≡ length (content (drop n t)) = e ∙ ap (λ p. unwrap_or p (length x)) first ∙ content_end x ∙ ap (λ y. length (content y)) rest in
    let cut : n + k - n ≡ length (content (drop n t)) = omega arith in
    ap (λ (i : ℕ). take i (drop n t)) cut ∙ sym (content_front (drop n t))
