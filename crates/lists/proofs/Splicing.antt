-- A tail moved and a part written make a splice. Assumes nothing.
use Rattle.std.proofs.Common.{◌≡◌, ℕ, ◌+◌, ◌-◌, ◌≤◌, Bool, true, false, cond, ◌&&◌, leb, List, ◌++◌, length, take, drop, sym, refl, ap, ◌∙◌, arith}
use lib.Seq.{paste}
use Rattle.std.proofs.lemmas.List.{append_assoc, take_at, drop_at, take-append-le, take-take, length-take-le, length-append, length-drop, drop-drop}
use Rattle.std.proofs.lemmas.Slice.{between_is}
use Rattle.std.proofs.lemmas.Bool.{le-leb, leb-true, and_from, and_parts, cond-true}
use Rattle.lists.specs.Splices.{fits, kept, holds, splice_rule, replaced}

module _ {X : Type 0} (t i s : List X) (start end n : ℕ) where
  -- the slice once the tail was moved behind the place of the insert, and the insert was written
  pub moved : start ≤ end → end ≤ n → n ≤ length t → start + length i + (n - end) ≤ length t
      → s ≡ paste t (start + length i) (drop end t) (n - end)
      → take (start + length i + (n - end)) (take start s ++ (i ++ drop (start + length i - start) (drop start s))) ≡ replaced (take n t) start end i
  moved a b c f e =
      let mid : ℕ = start + length i in
      let tail : List X = take (n - end) (drop end t) in
      let rest : List X = drop (mid + (n - end)) t in
      let front : length (take mid t) ≡ mid = length-take-le mid t (omega arith) in
      let parts : s ≡ take mid t ++ (tail ++ rest) = e ∙ append_assoc (take mid t) tail rest in
      let e2 : take start s ≡ take start t =
      ap (take start) parts ∙ take-append-le start (take mid t) (tail ++ rest) (omega arith) ∙ take-take start mid t (omega arith) in
      let at : start + (mid - start) ≡ mid = omega arith in
      let e3 : drop (mid - start) (drop start s) ≡ tail ++ rest =
      drop-drop (mid - start) start s ∙ ap (λ x. drop x s) at ∙ ap (drop mid) parts ∙ drop_at (take mid t) (tail ++ rest) mid front in
      let lt : length tail ≡ n - end = length-take-le (n - end) (drop end t) (simp length-drop (omega arith)) in
      let lf : length (take start t) ≡ start = length-take-le start t (omega arith) in
      let all : length (take start t ++ (i ++ tail)) ≡ mid + (n - end) = simp length-append (omega arith) in
      let e4 : take start s ++ (i ++ drop (mid - start) (drop start s)) ≡ (take start t ++ (i ++ tail)) ++ rest = simp (e2, e3, append_assoc) in
      ap (take (mid + (n - end))) e4 ∙ take_at (take start t ++ (i ++ tail)) rest (mid + (n - end)) all
      ∙ (λ k. cut k ++ (i ++ between_is t end n k))
    where
      cut : take start t ≡ take start (take n t)
      cut = sym (take-take start n t (omega arith))

pub fits_from : (room n start end size : ℕ) → start ≤ end → end ≤ n → n ≤ room → start + size + (n - end) ≤ room → fits room n start end size ≡ true
fits_from room n start end size a b c f = and_from _ _ (le-leb start end a) (and_from _ _ (le-leb end n b) (and_from _ _ (le-leb n room c) (le-leb _ room f)))

pub fits_size : (room n start end size : ℕ) → fits room n start end size ≡ true → start + size + (n - end) ≤ room
fits_size room n start end size e =
    let p = and_parts (leb start end) (leb end n && (leb n room && leb (start + size + (n - end)) room)) e in
    let q = and_parts (leb end n) (leb n room && leb (start + size + (n - end)) room) p.1 in
    leb-true _ room (and_parts (leb n room) _ q.1).1

module _ {X : Type 0} (t i : List X) (start end n : ℕ) where
  -- where a splice fits, its rule says what it holds then
  pub done : start ≤ end → end ≤ n → n ≤ length t → start + length i + (n - end) ≤ length t → splice_rule t n start end i ≡ holds (start + length i + (n - end)) (replaced (take n t) start end i)
  done a b c f = cond-true _ _ _ (fits_from (length t) n start end (length i) a b c f)

  -- and what a splice holds, or that it kept the slice, says whether it fitted
  pub held : (k : ℕ) (xs : List X) → holds k xs ≡ splice_rule t n start end i
      → (fits (length t) n start end (length i) ≡ true) × (k ≡ start + length i + (n - end)) × (xs ≡ replaced (take n t) start end i)
  held k xs e = by (fits (length t) n start end (length i)) refl e
    where
      by : (v : Bool) → fits (length t) n start end (length i) ≡ v
          → holds k xs ≡ cond v (holds (start + length i + (n - end)) (replaced (take n t) start end i)) (kept t)
          → (fits (length t) n start end (length i) ≡ true) × (k ≡ start + length i + (n - end)) × (xs ≡ replaced (take n t) start end i)
      by true f e = (f, cc, cc)
      by false f e = absurd (cc)

  pub stays : (xs : List X) → kept xs ≡ splice_rule t n start end i → (fits (length t) n start end (length i) ≡ false) × (xs ≡ t)
  stays xs e = by (fits (length t) n start end (length i)) refl e
    where
      by : (v : Bool) → fits (length t) n start end (length i) ≡ v
          → kept xs ≡ cond v (holds (start + length i + (n - end)) (replaced (take n t) start end i)) (kept t)
          → (fits (length t) n start end (length i) ≡ false) × (xs ≡ t)
      by true f e = absurd (cc)
      by false f e = (f, cc)

pub replaced_length : {X : Type 0} (xs new : List X) (a b : ℕ) → a ≤ length xs → length (replaced xs a b new) ≡ a + length new + (length xs - b)
replaced_length xs new a b l = let f = length-take-le a xs l in simp (length-append, length-drop) (omega arith)
