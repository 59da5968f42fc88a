-- The laws of texts, proved. Assumes nothing.
use Rattle.std.proofs.Common.{◌≡◌, ℕ, suc, ◌+◌, ◌-◌, ◌/◌, ◌<◌, ◌≤◌, true, false, ◌⊎◌, List, [], ◌∷◌, ◌++◌, length, take, drop, Some, None, IsUtf8, Option, sym, refl, ap, ◌∙◌, subst, inl, inr, ⊎_elim, arith, length-append}
use lib.Utf8.{scalar, scalars, encode, encodes, next}
use Rattle.std.specs.Str.{IsCharBoundary, chars}
use Rattle.std.proofs.lemmas.List.{append_assoc, take-append-drop, take-take, length-take-le}
use Rattle.std.proofs.lemmas.Str.{IsUtf8-append, IsUtf8-take, IsUtf8-drop, IsCharBoundary-start, IsCharBoundary-after_ascii, IsCharBoundary-from_rest, encodes-chars, scalars-chars}
use Rattle.std.proofs.lemmas.Bool.{and_parts, cases_lt, true≢false}
use Rattle.std.proofs.lemmas.Bool.Decides.{nat_tests}
use Rattle.text.specs.declared.places.Position.{Position}
use Rattle.text.specs.Lines.{is_end, start_of, content, content_from}
use Rattle.text.specs.Columns.{counted, wide, units_of, seek}
use Rattle.text.specs.Positions.{or0, is_none, line_at, inside, place_of, cut_column, typed}
use Rattle.text.specs.Laws.{
  Between,
  There,
  PlacesLieBetweenCharacters,
  PlacesCountTheirColumn,
  CutPositionsKeepTheirPlace,
  InsideMeansNoSuchColumn,
  total,
  UnitsAreOfCharacters,
  ChangesOfTextsAreTexts,
  EarlierLinesStay,
}
use Rattle.utf8.proofs.Chars.{no_char, begins_from, enc_one, enc_two, enc_three, enc_four}
use Rattle.utf8.proofs.Firsts.{first_is}
use Rattle.text.proofs.Starts.{starts, start_is, start_take, start_behind, same_front}
use Rattle.text.proofs.Measuring.{seek_counts, seek_never, seek_boundary, seek_cut}

-- places

is_some : (o : Option ℕ) → is_none o ≡ false → o ≡ Some (or0 o)
is_some None e = absurd (true≢false e)
is_some (Some n) e = refl

end_low : (b : ℕ) → is_end b ≡ true → b < 128
end_low b e = grind (arith, nat_tests, e)

start_boundary : (t : List ℕ) (k n : ℕ) → IsUtf8 t → start_of t k ≡ Some n → IsCharBoundary t n
start_boundary t k n u e =
    ⊎_elim (λ z. subst (IsCharBoundary t) (sym z) (IsCharBoundary-start t u))
    (λ h.
    let q : h.0 + 1 ≡ n = omega (arith, h.1) in
    subst (IsCharBoundary t) q (IsCharBoundary-after_ascii t h.0 u h.2 (end_low _ h.3)))
    (start_behind (starts t k n e))

module _ (u : ℕ → ℕ) (t : List ℕ) (p : Position) (h : There u t p) where
  line_is : start_of t p.line ≡ Some (or0 (start_of t p.line))
  line_is = is_some (start_of t p.line) h.line

  seek_is : seek u (line_at t p) p.character.0 ≡ Some (or0 (seek u (line_at t p) p.character.0))
  unfolding inside
  seek_is = is_some _ h.outside

  place_boundary : IsUtf8 t → IsCharBoundary t (place_of u t p)
  unfolding place_of
  place_boundary text =
      let s = or0 (start_of t p.line) in
      let b = start_boundary t p.line s text line_is in
      IsCharBoundary-from_rest t s _ b.0 (seek_boundary u (line_at t p) p.character.0 _ seek_is)

between : (t : List ℕ) (n : ℕ) → IsUtf8 t → IsCharBoundary t n → Between t n
between t n u b = record { within = b.0; before = IsUtf8-take t n u b; behind = IsUtf8-drop t n u b }

pub places_lie_between_characters : PlacesLieBetweenCharacters
places_lie_between_characters u t p text h = between t (place_of u t p) text (place_boundary u t p h text)

pub places_count_their_column : PlacesCountTheirColumn
unfolding place_of cut_column
places_count_their_column u t p h =
    let s = or0 (start_of t p.line) in
    let m = or0 (seek u (line_at t p) p.character.0) in
    let e : s + m - s ≡ m = omega arith in
    ap (units_of u (line_at t p)) e ∙ seek_counts u (line_at t p) p.character.0 m (seek_is u t p h)

pub cut_positions_keep_their_place : CutPositionsKeepTheirPlace
unfolding inside place_of cut_column
cut_positions_keep_their_place u t p =
    let same = seek_cut u (line_at t p) p.character.0 in
    (ap is_none same, ap (λ o. or0 (start_of t p.line) + or0 o) same)

is_none_lem : (o : Option ℕ) → is_none o ≡ true → o ≡ None
is_none_lem None e = refl
is_none_lem (Some n) e = absurd (true≢false (sym e))

pub inside_means_no_such_column : InsideMeansNoSuchColumn
unfolding inside
inside_means_no_such_column u t p e n l k = seek_never u (line_at t p) p.character.0 (is_none_lem _ e) n k l

pub changes_of_texts_are_texts : ChangesOfTextsAreTexts
unfolding typed
changes_of_texts_are_texts u t new r text more a b =
    IsUtf8-append _ _ (places_lie_between_characters u t r.start text a).before (IsUtf8-append new _ more (places_lie_between_characters u t r.end text b).behind)

-- units of characters

module _ (u : ℕ → ℕ) where
  wide_char : (c : ℕ) (r : List ℕ) → scalar c ≡ true → wide u (encode c ++ r) ≡ u c
  unfolding wide
  wide_char c r s = ap (counted u) (sym (first_is (encode c ++ r) (Some c) (begins_from (encode c ++ r) r c s refl)))

  wide_inside : (v : ℕ) (r : List ℕ) → wide u (next v ∷ r) ≡ 0
  unfolding wide
  wide_inside v r = ap (counted u) (sym (first_is (next v ∷ r) None (no_char (next v ∷ r) (λ g. omega (arith, (g.second (omega arith)).1.least)))))

  -- a character counts its units, once
  units_char : (c : ℕ) (r : List ℕ) (n : ℕ) → scalar c ≡ true → units_of u (encode c ++ r) (length (encode c) + n) ≡ u c + units_of u r n
  units_char c r n s = by (cases_lt c 128) (cases_lt c 2048) (cases_lt c 65536)
    where
      front : (bs : List ℕ) → encode c ≡ bs → wide u (bs ++ r) ≡ u c
      front bs e = ap (λ x. wide u (x ++ r)) (sym e) ∙ wide_char c r s

      Units : List ℕ → Type 0
      Units bs = units_of u (bs ++ r) (length bs + n) ≡ u c + units_of u r n

      by : (c < 128) ⊎ (128 ≤ c) → (c < 2048) ⊎ (2048 ≤ c) → (c < 65536) ⊎ (65536 ≤ c) → units_of u (encode c ++ r) (length (encode c) + n) ≡ u c + units_of u r n
      by (inl h) _ _ =
          let e = enc_one c h in
          let k : 1 + n ≡ suc n = omega arith in
          let w = front (c ∷ []) e in
          subst (λ bs. units_of u (bs ++ r) (length bs + n) ≡ u c + units_of u r n) (sym e) (ap (units_of u (c ∷ r)) k ∙ omega arith)
      by (inr l) (inl h) _ =
          let e = enc_two c l h in
          let k : 2 + n ≡ suc (suc n) = omega arith in
          let w = front ((192 + c / 64) ∷ next c ∷ []) e in
          let x = wide_inside c r in
          subst (λ bs. units_of u (bs ++ r) (length bs + n) ≡ u c + units_of u r n) (sym e) (ap (units_of u ((192 + c / 64) ∷ next c ∷ r)) k ∙ omega arith)
      by (inr _) (inr l) (inl h) =
          let e = enc_three c l h in
          let k : 3 + n ≡ suc (suc (suc n)) = omega arith in
          let w = front ((224 + c / 4096) ∷ next (c / 64) ∷ next c ∷ []) e in
          let x = wide_inside c r in
          let y = wide_inside (c / 64) (next c ∷ r) in
          subst (λ bs. units_of u (bs ++ r) (length bs + n) ≡ u c + units_of u r n) (sym e) (ap (units_of u ((224 + c / 4096) ∷ next (c / 64) ∷ next c ∷ r)) k ∙ omega arith)
      by (inr _) (inr _) (inr l) =
          let e = enc_four c l in
          let k : 4 + n ≡ suc (suc (suc (suc n))) = omega arith in
          let w = front ((240 + c / 262144) ∷ next (c / 4096) ∷ next (c / 64) ∷ next c ∷ []) e in
          let x = wide_inside c r in
          let y = wide_inside (c / 64) (next c ∷ r) in
          let z = wide_inside (c / 4096) (next (c / 64) ∷ next c ∷ r) in
          subst (λ bs. units_of u (bs ++ r) (length bs + n) ≡ u c + units_of u r n) (sym e) (ap (units_of u ((240 + c / 262144) ∷ next (c / 4096) ∷ next (c / 64) ∷ next c ∷ r)) k ∙ omega arith)

  units_chars : (cs r : List ℕ) → scalars cs ≡ true → units_of u (encodes cs ++ r) (length (encodes cs)) ≡ total u cs
  units_chars [] r s = refl
  units_chars (c ∷ cs) r s =
      let p = and_parts (scalar c) (scalars cs) s in
      (λ i. units_of u (append_assoc (encode c) (encodes cs) r i) (length-append (encode c) (encodes cs) i))
      ∙ units_char c (encodes cs ++ r) (length (encodes cs)) p.0
      ∙ ap (λ n. u c + n) (units_chars cs r p.1)

pub units_are_of_characters : UnitsAreOfCharacters
units_are_of_characters u t n text b =
    let cs = chars (take n t) in
    let e : encodes cs ≡ take n t = encodes-chars (take n t) b.before in
    let long : length (encodes cs) ≡ n = ap length e ∙ length-take-le n t b.within in
    let whole : encodes cs ++ drop n t ≡ t = ap (λ x. x ++ drop n t) e ∙ take-append-drop n t in
    sym (λ i. units_of u (whole i) (long i)) ∙ units_chars u cs (drop n t) (scalars-chars (take n t) b.before)

-- lines before a change

pub earlier_lines_stay : EarlierLinesStay
unfolding typed place_of
earlier_lines_stay u t new r k e l =
    let p = r.start in
    let m = or0 (start_of t p.line) in
    let s = starts t p.line m (is_some (start_of t p.line) e) in
    let a = m + or0 (seek u (line_at t p) p.character.0) in
    let front = take m t in
    let y = drop m t in
    let b = place_of u t r.end in
    let z = drop m (take a t) ++ (new ++ drop b t) in
    let old : front ++ y ≡ t = take-append-drop m t in
    let cut : take m (take a t) ≡ front = take-take m a t (omega arith) in
    let made : front ++ z ≡ take a t ++ (new ++ drop b t) =
    sym (append_assoc front (drop m (take a t)) (new ++ drop b t)) ∙ ap (λ x. (x ++ drop m (take a t)) ++ (new ++ drop b t)) (sym cut) ∙ ap (λ x. x ++ (new ++ drop b t)) (take-append-drop m (take a t)) in
    let same = same_front y z (start_take s) k l in
    let n = same.place in
    let one : start_of t k ≡ Some n = ap (λ x. start_of x k) (sym old) ∙ start_is same.one in
    let other : start_of (take a t ++ (new ++ drop b t)) k ≡ Some n = ap (λ x. start_of x k) (sym made) ∙ start_is same.other in
    let contents : content (drop n (take a t ++ (new ++ drop b t))) ≡ content (drop n t) =
    ap (λ x. content (drop n x)) (sym made) ∙ sym same.contents ∙ ap (λ x. content (drop n x)) old in
    (other ∙ sym one, ap (content_from (take a t ++ (new ++ drop b t))) other ∙ ap Some contents ∙ sym (ap (content_from t) one))
