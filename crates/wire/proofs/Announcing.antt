-- The number that a header announces. Assumes nothing.
use Rattle.std.proofs.Common.{◌≡◌, ℕ, zero, suc, ◌+◌, ◌-◌, ◌<◌, ◌≤◌, Bool, true, false, ◌&&◌, leb, List, [], ◌∷◌, ◌++◌, length, get_or, take, drop, decimal, Decides, sym, refl, ap, ◌∙◌, append_assoc, one-add, arith}
use Rattle.std.specs.Char.{is_ascii_digit, digit_value as digitValue}
use Rattle.std.specs.Str.Parse.{AllDigits, digits_value}
use Rattle.std.specs.List.{prefix_len}
use Rattle.std.specs.Str.{bytes_eq}
use Rattle.std.proofs.lemmas.List.{drop_more, drop_all, take_at}
use Rattle.std.proofs.lemmas.Bool.{cond-true, cond-false, and_from, le-leb, false≢true}
use Rattle.std.proofs.lemmas.Str.Parse.{digit_from_value}
use Rattle.std.proofs.lemmas.Fmt.{decimal_is_IsNumeral, length-decimal-le}
use Rattle.std.proofs.lemmas.Bool.Decides.{nat_tests, same_from_decides}
use Rattle.std.proofs.lemmas.Slice.Eq.{bytes_eq-Decides}
use Rattle.wire.specs.Words.{over}
use Rattle.wire.specs.Headers.{body_limit, ending, heading, digits_of, headed, HeadersAnnounce}

-- the digits at the front, n at most: one more, and where they end

digits_cons : (b : ℕ) (r : List ℕ) (m : ℕ) → is_ascii_digit b ≡ true → digits_of (suc m) (b ∷ r) ≡ b ∷ digits_of m r
digits_cons b r m e =
    ap (λ (n : ℕ). take n (b ∷ r)) (cond-true (is_ascii_digit b) (1 + prefix_len is_ascii_digit (take m r)) 0 e ∙ one-add (prefix_len is_ascii_digit (take m r)))

digits_other : (b : ℕ) (r : List ℕ) (n : ℕ) → is_ascii_digit b ≡ false → digits_of n (b ∷ r) ≡ []
digits_other b r zero e = refl
digits_other b r (suc n) e = ap (λ (k : ℕ). take k (b ∷ r)) (cond-false (is_ascii_digit b) (1 + prefix_len is_ascii_digit (take n r)) 0 e)

pub digits_none : (n : ℕ) → digits_of n [] ≡ []
digits_none zero = refl
digits_none (suc n) = refl

module _ (bs : List ℕ) (at : ℕ) where
  pub digits_more : (n m : ℕ) → n ≡ suc m → at < length bs → is_ascii_digit (get_or bs at 0) ≡ true → digits_of n (drop at bs) ≡ get_or bs at 0 ∷ digits_of m (drop (at + 1) bs)
  digits_more n m e l d = (λ i. digits_of (e i) (drop_more bs at 0 l i)) ∙ digits_cons (get_or bs at 0) (drop (at + 1) bs) m d

  pub digits_stop : (n : ℕ) → at < length bs → is_ascii_digit (get_or bs at 0) ≡ false → digits_of n (drop at bs) ≡ []
  digits_stop n l d = ap (digits_of n) (drop_more bs at 0 l) ∙ digits_other (get_or bs at 0) (drop (at + 1) bs) n d

  pub digits_end : (n : ℕ) → length bs ≤ at → digits_of n (drop at bs) ≡ []
  digits_end n l = ap (digits_of n) (drop_all at bs l) ∙ digits_none n

-- the digits at the front, all of them: one more

abbrev pub leading : List ℕ → List ℕ
leading bs = take (prefix_len is_ascii_digit bs) bs

leading_cons : (b : ℕ) (r : List ℕ) → is_ascii_digit b ≡ true → leading (b ∷ r) ≡ b ∷ leading r
leading_cons b r e = ap (λ (n : ℕ). take n (b ∷ r)) (cond-true (is_ascii_digit b) (1 + prefix_len is_ascii_digit r) 0 e ∙ one-add (prefix_len is_ascii_digit r))

module _ (bs : List ℕ) (i : ℕ) where
  pub leading_more : i < length bs → is_ascii_digit (get_or bs i 0) ≡ true → leading (drop i bs) ≡ get_or bs i 0 ∷ leading (drop (i + 1) bs)
  leading_more l d = ap leading (drop_more bs i 0 l) ∙ leading_cons (get_or bs i 0) (drop (i + 1) bs) d

pub digit_value : (b : ℕ) → is_ascii_digit b ≡ true → digitValue b ≡ b - 48
digit_value b e = grind (arith, nat_tests, e)

pub digit_low : (b : ℕ) → is_ascii_digit b ≡ true → b ≤ 57
digit_low b e = grind (arith, nat_tests, e)

-- the digits of a number, with another byte behind them
digits_front : (ds r : List ℕ) (c n : ℕ) → AllDigits 10 ds → length ds ≤ n → is_ascii_digit c ≡ false → digits_of n (ds ++ (c ∷ r)) ≡ ds
digits_front [] r c zero d l e = refl
digits_front [] r c (suc n) d l e = ap (λ (k : ℕ). take k (c ∷ r)) (cond-false (is_ascii_digit c) (1 + prefix_len is_ascii_digit (take n r)) 0 e)
digits_front (b ∷ ds) r c zero d l e = absurd (omega arith)
digits_front (b ∷ ds) r c (suc n) d l e =
    let is : is_ascii_digit b ≡ true = let h = digit_from_value b d.0 in grind (arith, nat_tests, h) in
    let m = prefix_len is_ascii_digit (take n (ds ++ (c ∷ r))) in
    ap (λ (k : ℕ). take k (b ∷ (ds ++ (c ∷ r)))) (cond-true (is_ascii_digit b) (1 + m) 0 is ∙ one-add m) ∙ ap (λ x. b ∷ x) (digits_front ds r c n d.1 (omega arith) e)

same_self : (xs : List ℕ) → bytes_eq xs xs ≡ true
same_self xs = (bytes_eq-Decides xs xs).1 refl

pub headers_announce : HeadersAnnounce
unfolding heading
headers_announce n rest h =
    let reads = decimal_is_IsNumeral n (omega arith) in
    let few = length-decimal-le 5 n (omega arith) (omega arith) (omega arith) in
    let digits : digits_of 5 (drop 16 (heading n ++ rest)) ≡ decimal n = ap (digits_of 5) (append_assoc (decimal n) ending rest) ∙ digits_front (decimal n) _ 13 5 reads.0.1 few refl in (
      ap (digits_value 10) digits ∙ reads.1,
      and_from _ _ (le-leb n body_limit h) (ap (bytes_eq (heading n)) (take_at (heading n) rest (length (heading n)) refl) ∙ same_self (heading n)),
    )

-- the front of a frame, held against a header that was written for it
module _ (frame zeros out : List ℕ) (n end : ℕ) (r : Bool) (few : n ≤ body_limit) (wrote : out ≡ over zeros 0 (heading n)) (next : end ≡ length (heading n)) where
  needle : take (end - 0) out ≡ heading n
  needle = ap (take (end - 0)) wrote ∙ take_at (heading n) _ (end - 0) (omega arith)

  pub is_headed : Decides r (take (end - 0) out ≡ take (length (take (end - 0) out)) frame) → r ≡ headed frame n
  is_headed d =
      same_from_decides r _ d (bytes_eq-Decides (take (end - 0) out) (take (length (take (end - 0) out)) frame))
      ∙ ap (λ p. bytes_eq p (take (length p) frame)) needle
      ∙ sym (and_right_true (leb n body_limit) _ (le-leb n body_limit few))
    where
      and_right_true : (a b : Bool) → a ≡ true → (a && b) ≡ b
      and_right_true true b e = refl
      and_right_true false b e = absurd (false≢true e)
