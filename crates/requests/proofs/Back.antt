-- What is written is read as the same message. Assumes nothing.
use Rattle.std.proofs.Common.{◌≡◌, ℕ, ◌+◌, ◌*◌, ◌<◌, ◌≤◌, true, List, length, get_or, Some, sym, ap, ◌∙◌, arith, length-append}
use Rattle.std.specs.List.{AllByRecursion}
use Rattle.std.proofs.lemmas.List.{drop_at}
use Rattle.std.proofs.lemmas.Bool.{and_parts, leb-true}
use Rattle.text.specs.Positions.{limit}
use Rattle.text.specs.Places.{Range}
use Rattle.wire.specs.Words.{field_at, words, Fitting}
use Rattle.wire.specs.Headers.{heading}
use Rattle.wire.proofs.Starting.{header_size}
use Rattle.wire.proofs.Wording.{words_length}
use Rattle.wire.proofs.Fields.{field_nth}
use Rattle.wire.proofs.Framing.{read_framed}
use Rattle.requests.specs.Messages.{Up, between, ranged, text_of, up_open, up_type, up_replace, up_save, up_close, up_ask_full, up_ask_delta}
use Rattle.requests.specs.Bodies.{word, words_of, body_of, text_at, reading}
use Rattle.requests.specs.Frames.{WrittenIsRead, FramesAreShort}
use Rattle.requests.proofs.Telling.{text_told}
use Rattle.requests.proofs.Words.{place_read, open_read, type_read, replace_read, save_read, close_read, ask_full_read, ask_delta_read}

body_length : (m : Up) → length (body_of m) ≡ 4 * length (words_of m) + length (text_of m)
body_length m = length-append (words (words_of m)) (text_of m) ∙ ap (λ n. n + length (text_of m)) (words_length (words_of m))

few_words : (m : Up) → length (words_of m) ≤ 8
few_words (up_open o t) = omega arith
few_words (up_type o v r t) = omega arith
few_words (up_replace o v t) = omega arith
few_words (up_save o v) = omega arith
few_words (up_close o) = omega arith
few_words (up_ask_full o r) = omega arith
few_words (up_ask_delta o r i) = omega arith

short_body : (m : Up) → length (text_of m) ≤ limit → length (body_of m) ≤ 10276
short_body m l = omega (arith, body_length m, few_words m)

pub frames_are_short : FramesAreShort
frames_are_short m l = omega (arith, length-append (heading (length (body_of m))) (body_of m), header_size (length (body_of m)) (short_body m l), body_length m, few_words m)

in_range_lem : (low high n : ℕ) → between low high n ≡ true → (low ≤ n) × (n ≤ high)
in_range_lem low high n e = let p = and_parts _ _ e in (leb-true _ _ p.0, leb-true _ _ p.1)

-- the words of a message whose values are in range, read at their places
module _ (m : Up) (fits : AllByRecursion Fitting (words_of m)) where
  nth : (n low high : ℕ) → n < length (words_of m) → low ≤ (get_or (words_of m) n (word 0 0)).1 → (get_or (words_of m) n (word 0 0)).1 ≤ high
      → field_at (body_of m) (4 * n) (get_or (words_of m) n (word 0 0)).0 low high ≡ Some (get_or (words_of m) n (word 0 0)).1
  nth n low high = field_nth (words_of m) (text_of m) n (word 0 0) low high fits

  ends : (i : ℕ) → 4 * length (words_of m) ≡ i + 4 → field_at (body_of m) i 8 0 268435455 ≡ Some (length (text_of m)) → text_at (body_of m) i ≡ Some (text_of m)
  ends i e h =
      sym (text_told (body_of m) i (length (text_of m)) (sym h) (omega (arith, body_length m)))
      ∙ ap Some (drop_at (words (words_of m)) (text_of m) (i + 4) (omega (arith, words_length (words_of m))))

module _ (o : ℕ) (t : List ℕ) (l : length t ≤ limit) (e : ranged (up_open o t) ≡ true) where
  open_back : reading (body_of (up_open o t)) ≡ Some (up_open o t)
  open_back =
      let m = up_open o t in
      let a = in_range_lem _ _ _ e in
      let fits : AllByRecursion Fitting (words_of m) = ((omega arith, omega arith), ((omega arith, omega (arith, a.1)), ((omega arith, omega arith), ((omega arith, omega (arith, l)), tt)))) in
      open_read (body_of m) o (nth m fits 1 1 4095 (omega arith) a.0 a.1) t (nth m fits 0 0 268435455 (omega arith) (omega arith) (omega arith))
      (nth m fits 2 1 1 (omega arith) (omega arith) (omega arith)) (ends m fits 12 (omega arith) (nth m fits 3 0 268435455 (omega arith) (omega arith) (omega (arith, l))))

module _ (o v : ℕ) (r : Range) (t : List ℕ) (l : length t ≤ limit) (e : ranged (up_type o v r t) ≡ true) where
  type_back : reading (body_of (up_type o v r t)) ≡ Some (up_type o v r t)
  type_back =
      let m = up_type o v r t in
      let p = and_parts _ _ e in
      let q = and_parts _ _ p.1 in
      let z = and_parts _ _ q.1 in
      let from = and_parts _ _ z.0 in
      let to = and_parts _ _ z.1 in
      let a = in_range_lem _ _ _ p.0 in
      let b = in_range_lem _ _ _ q.0 in
      let fl = in_range_lem _ _ _ from.0 in
      let fc = in_range_lem _ _ _ from.1 in
      let tl = in_range_lem _ _ _ to.0 in
      let tc = in_range_lem _ _ _ to.1 in
      let fits : AllByRecursion Fitting (words_of m) =
      ((omega arith, omega arith), ((omega arith, omega (arith, a.1)), ((omega arith, omega (arith, b.1)), ((omega arith, omega (arith, fl.1)), ((omega arith, omega (arith, fc.1)), ((omega arith, omega (arith, tl.1)), ((omega arith, omega (arith, tc.1)), ((omega arith, omega (arith, l)), tt)))))))) in
      type_read (body_of m) o (nth m fits 1 1 4095 (omega arith) a.0 a.1) v r.start r.end t (nth m fits 0 0 268435455 (omega arith) (omega arith) (omega arith))
      (nth m fits 2 1 65535 (omega arith) b.0 b.1)
      (place_read (body_of m) 12 _ _ (nth m fits 3 0 268435455 (omega arith) fl.0 fl.1) (nth m fits 4 0 268435455 (omega arith) fc.0 fc.1))
      (place_read (body_of m) 20 _ _ (nth m fits 5 0 268435455 (omega arith) tl.0 tl.1) (nth m fits 6 0 268435455 (omega arith) tc.0 tc.1))
      (ends m fits 28 (omega arith) (nth m fits 7 0 268435455 (omega arith) (omega arith) (omega (arith, l))))

module _ (o v : ℕ) (t : List ℕ) (l : length t ≤ limit) (e : ranged (up_replace o v t) ≡ true) where
  replace_back : reading (body_of (up_replace o v t)) ≡ Some (up_replace o v t)
  replace_back =
      let m = up_replace o v t in
      let p = and_parts _ _ e in
      let a = in_range_lem _ _ _ p.0 in
      let b = in_range_lem _ _ _ p.1 in
      let fits : AllByRecursion Fitting (words_of m) = ((omega arith, omega arith), ((omega arith, omega (arith, a.1)), ((omega arith, omega (arith, b.1)), ((omega arith, omega (arith, l)), tt)))) in
      replace_read (body_of m) o (nth m fits 1 1 4095 (omega arith) a.0 a.1) v t (nth m fits 0 0 268435455 (omega arith) (omega arith) (omega arith))
      (nth m fits 2 1 65535 (omega arith) b.0 b.1) (ends m fits 12 (omega arith) (nth m fits 3 0 268435455 (omega arith) (omega arith) (omega (arith, l))))

module _ (o v : ℕ) (e : ranged (up_save o v) ≡ true) where
  save_back : reading (body_of (up_save o v)) ≡ Some (up_save o v)
  save_back =
      let m = up_save o v in
      let p = and_parts _ _ e in
      let a = in_range_lem _ _ _ p.0 in
      let b = in_range_lem _ _ _ p.1 in
      let fits : AllByRecursion Fitting (words_of m) = ((omega arith, omega arith), ((omega arith, omega (arith, a.1)), ((omega arith, omega (arith, b.1)), tt))) in
      save_read (body_of m) o (nth m fits 1 1 4095 (omega arith) a.0 a.1) v (nth m fits 0 0 268435455 (omega arith) (omega arith) (omega arith))
      (nth m fits 2 1 65535 (omega arith) b.0 b.1) (body_length m)

close_back : (o : ℕ) → ranged (up_close o) ≡ true → reading (body_of (up_close o)) ≡ Some (up_close o)
close_back o e =
    let m = up_close o in
    let a = in_range_lem _ _ _ e in
    let fits : AllByRecursion Fitting (words_of m) = ((omega arith, omega arith), ((omega arith, omega (arith, a.1)), tt)) in
    close_read (body_of m) o (nth m fits 1 1 4095 (omega arith) a.0 a.1) (nth m fits 0 0 268435455 (omega arith) (omega arith) (omega arith)) (body_length m)

module _ (o r : ℕ) (e : ranged (up_ask_full o r) ≡ true) where
  ask_full_back : reading (body_of (up_ask_full o r)) ≡ Some (up_ask_full o r)
  ask_full_back =
      let m = up_ask_full o r in
      let p = and_parts _ _ e in
      let a = in_range_lem _ _ _ p.0 in
      let b = in_range_lem _ _ _ p.1 in
      let fits : AllByRecursion Fitting (words_of m) = ((omega arith, omega arith), ((omega arith, omega (arith, a.1)), ((omega arith, omega (arith, b.1)), tt))) in
      ask_full_read (body_of m) o (nth m fits 1 1 4095 (omega arith) a.0 a.1) r (nth m fits 0 0 268435455 (omega arith) (omega arith) (omega arith))
      (nth m fits 2 1 65535 (omega arith) b.0 b.1) (body_length m)

module _ (o r i : ℕ) (e : ranged (up_ask_delta o r i) ≡ true) where
  ask_delta_back : reading (body_of (up_ask_delta o r i)) ≡ Some (up_ask_delta o r i)
  ask_delta_back =
      let m = up_ask_delta o r i in
      let p = and_parts _ _ e in
      let q = and_parts _ _ p.1 in
      let a = in_range_lem _ _ _ p.0 in
      let b = in_range_lem _ _ _ q.0 in
      let d = in_range_lem _ _ _ q.1 in
      let fits : AllByRecursion Fitting (words_of m) = ((omega arith, omega arith), ((omega arith, omega (arith, a.1)), ((omega arith, omega (arith, b.1)), ((omega arith, omega (arith, d.1)), tt)))) in
      ask_delta_read (body_of m) o (nth m fits 1 1 4095 (omega arith) a.0 a.1) r i (nth m fits 0 0 268435455 (omega arith) (omega arith) (omega arith))
      (nth m fits 2 1 65535 (omega arith) b.0 b.1) (nth m fits 3 1 65535 (omega arith) d.0 d.1) (body_length m)

body_back : (m : Up) → ranged m ≡ true → length (text_of m) ≤ limit → reading (body_of m) ≡ Some m
body_back (up_open o t) e l = open_back o t l e
body_back (up_type o v r t) e l = type_back o v r t l e
body_back (up_replace o v t) e l = replace_back o v t l e
body_back (up_save o v) e l = save_back o v e
body_back (up_close o) e l = close_back o e
body_back (up_ask_full o r) e l = ask_full_back o r e
body_back (up_ask_delta o r i) e l = ask_delta_back o r i e

pub written_is_read : WrittenIsRead
written_is_read m e l = read_framed reading (body_of m) m (short_body m l) (body_back m e l)
