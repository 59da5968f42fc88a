-- A change, check by check, and what its splice leaves in the lent memory. Assumes nothing.
use Rattle.std.proofs.Common.{◌≡◌, ℕ, ◌+◌, ◌-◌, ◌<◌, ◌≤◌, Bool, true, false, cond, eqb, ltb, List, [], ◌∷◌, ◌++◌, length, take, drop, Some, None, Option, sym, refl, ap, ◌∙◌, ⊎_elim, arith, length-drop}
use Rattle.std.proofs.lemmas.List.{take-append-le, take-append-drop, take-take, length-take-le, drop_at}
use Rattle.std.proofs.lemmas.Bool.{cond-true, cond-false, cond_both, both_ways, or_parts, lt-ltb, le-ltb, ltb-false, cases_lt, not-false}
use Rattle.std.specs.Option.{ok_or}
use Rattle.refusals.specs.declared.Refusal.TheVariants.{ResultTooLong}
use Rattle.refusals.specs.Outcomes.{refused, taken, settle, outcome}
use Rattle.refusals.proofs.Settles.{settle_on, settle_stop, settle_taken, settle_passes}
use Rattle.lists.specs.Splices.{kept, holds, ended, replaced, splice_rule}
use Rattle.lists.proofs.Splicing.{held, stays, fits_from, fits_size, replaced_length}
use Rattle.text.specs.declared.changes.Text.{Text}
use Rattle.text.specs.declared.places.Position.{Position}
use Rattle.text.specs.Places.{Range}
use Rattle.text.specs.Lines.{is_end, later, start_of}
use Rattle.text.specs.Columns.{wide, seek}
use Rattle.text.specs.Positions.{IsText, limit, or0, place_of, typed, text_checks, range_checks, check_rule, text_rule, range_rule, unsound, Changed, change_rule, leaves}
use Rattle.utf8.proofs.Syntax.{test_decides_utf8}
use Rattle.text.proofs.Starts.{starts, start_within}

-- the place of a position lies in the text

later_within : (o : Option ℕ) (n : ℕ) → or0 o ≤ n → or0 (later o) ≤ n + 1
later_within None n l = omega arith
later_within (Some m) n l = omega arith

seek_within : (u : ℕ → ℕ) (t : List ℕ) (c : ℕ) → or0 (seek u t c) ≤ length t
seek_within u [] c = omega arith
seek_within u (b ∷ t) c =
    let w = wide u (b ∷ t) in
    let on : (d : ℕ) → or0 (later (seek u t d)) ≤ length (b ∷ t) = λ d. omega (arith, later_within (seek u t d) (length t) (seek_within u t d)) in
    let Fits : Option ℕ → Type 0 = λ o. or0 o ≤ length (b ∷ t) in
    let past : Option ℕ = cond (ltb c w) None (later (seek u t (c - w))) in
    let here : Option ℕ = cond (eqb c 0) (Some 0) past in
    let inner : Option ℕ = cond (eqb w 0) (later (seek u t c)) here in
    cond_both (is_end b) (Some 0) inner Fits (λ e. omega arith)
    (λ e. cond_both (eqb w 0) (later (seek u t c)) here Fits (λ e. on c)
    (λ e. cond_both (eqb c 0) (Some 0) past Fits (λ e. omega arith)
    (λ e. cond_both (ltb c w) None (later (seek u t (c - w))) Fits (λ e. omega arith) (λ e. on (c - w)))))

start_or0 : (t : List ℕ) (k : ℕ) (o : Option ℕ) → start_of t k ≡ o → or0 o ≤ length t
start_or0 t k None e = omega arith
start_or0 t k (Some n) e = (start_within (starts t k n e)).1

pub place_within : (u : ℕ → ℕ) (t : List ℕ) (p : Position) → place_of u t p ≤ length t
unfolding place_of
place_within u t p =
    let s = or0 (start_of t p.line) in
    let l = start_or0 t p.line (start_of t p.line) refl in
    let m = seek_within u (drop s t) p.character.0 in
    omega (arith, length-drop s t)

module _ (u : ℕ → ℕ) (t : List ℕ) (r : Range) (a b : ℕ) (is : taken (a, b) ≡ range_rule u t r) where
  at : ◌≡◌ {A = ℕ × ℕ} (a, b) (place_of u t r.start, place_of u t r.end)
  at = (settle_taken (tt {0}) _ (tt {0}) (tt {0}) (range_checks u t r) (a, b) (sym is)).0

  pub at_start : a ≡ place_of u t r.start
  at_start = ap (λ x. x.0) at

  pub at_end : b ≡ place_of u t r.end
  at_end = ap (λ x. x.1) at

  pub in_order : a ≤ b
  in_order =
      let ok = settle_passes (tt {0}) _ (range_checks u t r) (a, b) (sym is) in
      omega (arith, ltb-false _ _ ok.1.1.0, at_start, at_end)

  pub end_within : b ≤ length t
  end_within = omega (arith, place_within u t r.end, at_end)

  pub typed_is : (new : List ℕ) → typed u t r new ≡ replaced t a b new
  unfolding typed
  typed_is new = sym (λ k. replaced t (at_start k) (at_end k) new)

-- what passes the checks of a text is one
pub checked_text : (t : List ℕ) → taken tt ≡ check_rule t → IsText t
checked_text t e =
    let ok = settle_passes (tt {0}) (tt {0}) (text_checks t) tt (sym e) in
    record { whole = (test_decides_utf8 t).0 (not-false _ ok.1.0); short = ltb-false _ _ ok.0 }

-- and is that text
pub text_is : (t x : List ℕ) → taken x ≡ text_rule t → x ≡ t
text_is t x e = (settle_taken (tt {0}) t (tt {0}) (tt {0}) (text_checks t) x (sym e)).0

-- a text that was checked keeps that it is one
pub is_text : (t : Text) → IsText t.bytes.now
is_text t = record { whole = (test_decides_utf8 t.bytes.now).0 t.whole; short = t.short }

pub roomy : (m : List ℕ) (n : ℕ) → unsound m n ≡ false → (limit ≤ length m) × (n ≤ limit)
roomy m n sound =
    let p = or_parts (ltb (length m) limit) _ sound in
    let q = or_parts (ltb limit n) _ p.1 in
    (ltb-false _ _ p.0, ltb-false _ _ q.0)

module _ (u : ℕ → ℕ) (m : List ℕ) (n : ℕ) (r : Range) (new : List ℕ) where
  abbrev text : List ℕ
  text = take n m

  abbrev done : Changed
  done = record { size = length (typed u text r new); text = typed u text r new; beyond = drop limit m }

  abbrev last : List (ℕ × Bool)
  last = (15, ltb limit (length (typed u text r new))) ∷ []

  pub bad_memory : unsound m n ≡ true → refused 1 m ≡ change_rule u m n r new
  bad_memory e = sym (cond-true _ _ _ e)

  module _ (sound : unsound m n ≡ false) where
    texts_next : settle (text_checks new ++ (range_checks u text r ++ last)) m done ≡ change_rule u m n r new
    texts_next = sym (cond-false _ _ _ sound)

    pub bad_text : (k : ℕ) → refused k tt ≡ check_rule new → refused k m ≡ change_rule u m n r new
    bad_text k e = sym (settle_stop (tt {0}) (tt {0}) m done (range_checks u text r ++ last) (text_checks new) k tt (sym e)) ∙ texts_next

    module _ (good : taken tt ≡ check_rule new) where
      range_next : settle (range_checks u text r ++ last) m done ≡ change_rule u m n r new
      range_next = sym (settle_on (tt {0}) (tt {0}) m done (range_checks u text r ++ last) (text_checks new) tt (sym good)) ∙ texts_next

      pub bad_range : (k : ℕ) → refused k tt ≡ range_rule u text r → refused k m ≡ change_rule u m n r new
      bad_range k e = sym (settle_stop (tt {0}) _ m done last (range_checks u text r) k tt (sym e)) ∙ range_next

      module _ (a b : ℕ) (is : taken (a, b) ≡ range_rule u text r) where
        size_next : settle last m done ≡ change_rule u m n r new
        size_next = sym (settle_on (tt {0}) _ m done last (range_checks u text r) (a, b) (sym is)) ∙ range_next

        room : (limit ≤ length m) × (n ≤ limit)
        room = roomy m n sound

        kept_length : length (take limit m) ≡ limit
        kept_length = length-take-le limit m room.0

        text_length : length text ≡ n
        text_length = length-take-le n m (omega (arith, room.0, room.1))

        same_text : take n (take limit m) ≡ text
        same_text = take-take n limit m room.1

        new_length : length (typed u text r new) ≡ a + length new + (n - b)
        new_length =
            ap length (typed_is u text r a b is new) ∙ replaced_length text new a b (omega (arith, in_order u text r a b is, end_within u text r a b is))
            ∙ ap (λ (k : ℕ). a + length new + (k - b)) text_length

        pub changed : (k : ℕ) (s : List ℕ) → length s ≡ limit → holds k (take k s) ≡ splice_rule (take limit m) n a b new
            → taken (leaves (s ++ drop limit m) k) ≡ change_rule u m n r new
        changed k s long e =
            let h = held (take limit m) new a b n k (take k s) e in
            let small = fits_size (length (take limit m)) n a b (length new) h.0 in
            let size : k ≡ length (typed u text r new) = h.1 ∙ sym new_length in
            let front : take k (s ++ drop limit m) ≡ typed u text r new =
            take-append-le k s (drop limit m) (omega (arith, h.1, kept_length)) ∙ h.2 ∙ ap (λ x. replaced x a b new) same_text ∙ sym (typed_is u text r a b is new) in
            let back : drop limit (s ++ drop limit m) ≡ drop limit m = drop_at s (drop limit m) limit long in
            let fine : ltb limit (length (typed u text r new)) ≡ false = le-ltb limit _ (omega (arith, h.1, kept_length)) in
            (λ i. taken (record { size = size i; text = front i; beyond = back i })) ∙ sym (cond-false _ _ _ fine) ∙ size_next

        pub too_long : (s : List ℕ) → kept s ≡ splice_rule (take limit m) n a b new → refused 15 (s ++ drop limit m) ≡ change_rule u m n r new
        too_long s e =
            let h = stays (take limit m) new a b n s e in
            let whole : s ++ drop limit m ≡ m = ap (λ x. x ++ drop limit m) h.1 ∙ take-append-drop limit m in
            let over : limit < a + length new + (n - b) =
            ⊎_elim (λ l. l)
            (λ l. absurd (both_ways _ h.0 (fits_from (length (take limit m)) n a b (length new) (in_order u text r a b is) (omega (arith, end_within u text r a b is, text_length)) (omega (arith, kept_length, room.1)) (omega (arith, kept_length)))))
            (cases_lt limit (a + length new + (n - b))) in
            let long : ltb limit (length (typed u text r new)) ≡ true = lt-ltb limit _ (omega (arith, new_length)) in
            ap (refused 15) whole ∙ sym (cond-true _ _ _ long) ∙ size_next

        -- what the call answers of the splice
        pub spliced : (o : Option ℕ) (s : List ℕ) → length s ≡ limit → ended o s ≡ splice_rule (take limit m) n a b new
            → outcome (leaves (s ++ drop limit m)) (ok_or o ResultTooLong) (s ++ drop limit m) ≡ change_rule u m n r new
        spliced None s long e = too_long s e
        spliced (Some k) s long e = changed k s long e
