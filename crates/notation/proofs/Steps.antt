-- What the readers take from the front of a list. Assumes nothing.
use Rattle.std.proofs.Common.{◌≡◌, ℕ, suc, ◌+◌, ◌-◌, ◌*◌, ◌<◌, ◌≤◌, true, false, not, cond, List, [], ◌∷◌, length, get_or, take, drop, Some, None, sym, refl, ap, ◌∙◌, arith}
use Rattle.std.specs.Char.{is_ascii_digit}
use Rattle.std.specs.List.{position, position_or_len, before_first, after_first}
use Rattle.std.proofs.lemmas.Bool.Decides.{nat_tests}
use Rattle.std.proofs.lemmas.Bool.{eq-eqb}
use Rattle.notation.specs.Numbers.{digits, worth, behind}
use Rattle.std.proofs.lemmas.List.{drop_more, take_all, drop_all, take_rest}
use Rattle.notation.specs.ScriptLines.{is_end, line_of, lengthened, lines_of}

-- the digits from a place on
module _ (bs : List ℕ) (i : ℕ) where
  pub digits_more : i < length bs → is_ascii_digit (get_or bs i 0) ≡ true → digits (drop i bs) ≡ get_or bs i 0 ∷ digits (drop (i + 1) bs)
  digits_more h e = rw (drop_more bs i 0, e) refl

  pub digits_stop : i < length bs → is_ascii_digit (get_or bs i 0) ≡ false → digits (drop i bs) ≡ []
  digits_stop h e = rw (drop_more bs i 0, e) refl

  pub digits_end : length bs ≤ i → digits (drop i bs) ≡ []
  digits_end h = rw (drop_all i bs) refl

-- the first line, by the place of its end
pub line_ended : (bs : List ℕ) (n : ℕ) → Some n ≡ position is_end bs → (take n bs, take (length bs - (n + 1)) (drop (n + 1) bs)) ≡ line_of bs
unfolding line_of
line_ended bs n h = let rest = take_rest bs (n + 1) in grind (arith, nat_tests)

pub line_open : (bs : List ℕ) → None ≡ position is_end bs → (bs, []) ≡ line_of bs
unfolding line_of
line_open bs h = grind (arith, nat_tests, take_all, drop_all)

-- a line is the first of the lines
pub lines_first : (b : ℕ) (bs : List ℕ) → lines_of (b ∷ bs) ≡ before_first is_end (b ∷ bs) ∷ lines_of (after_first is_end (b ∷ bs))
lines_first b [] =
    elim (is_end b) as (λ v. cond v ([] ∷ []) ((b ∷ []) ∷ []) ≡ take (cond (not v) 1 0) (b ∷ []) ∷ lines_of (drop (cond (not v) 1 0 + 1) (b ∷ []))) [ true ↦ refl | false ↦ refl ]
lines_first b (c ∷ cs) =
    let bs = c ∷ cs in
    let n = position_or_len is_end bs in
    let later = lines_first c cs in
    let size : 1 + n ≡ suc n = omega arith in
    let past : suc n + 1 ≡ suc (n + 1) = omega arith in
    elim (is_end b) as (λ v. cond v ([] ∷ lines_of bs) (lengthened b (lines_of bs)) ≡ take (cond (not v) (1 + n) 0) (b ∷ bs) ∷ lines_of (drop (cond (not v) (1 + n) 0 + 1) (b ∷ bs))) [
      | true ↦ refl
      | false ↦ rw (size, past) (ap (lengthened b) later)
    ]

pub lines_next : (bs : List ℕ) (line rest : List ℕ) → 0 < length bs → (line, rest) ≡ line_of bs → lines_of bs ≡ line ∷ lines_of rest
unfolding line_of
lines_next [] line rest h e = absurd (omega arith)
lines_next (b ∷ bs) line rest h e = lines_first b bs ∙ ap (λ p. p.0 ∷ lines_of p.1) (sym e)

-- no digit makes the number smaller
pub worth_grows : (n : ℕ) (ds : List ℕ) → n ≤ worth n ds
worth_grows n [] = omega arith
worth_grows n (d ∷ ds) = let h = worth_grows (n * 10 + (d - 48)) ds in omega arith

-- the rest as the code has it
pub behind_first : (m : ℕ) (bs : List ℕ) → 0 < length bs → get_or bs 0 0 ≡ m → behind m bs ≡ Some (take (length bs - 1) (drop 1 bs))
behind_first m [] h e = absurd (omega arith)
behind_first m (b ∷ bs) h e = rw (eq-eqb b m e) (ap Some (sym (take_rest (b ∷ bs) 1)))
