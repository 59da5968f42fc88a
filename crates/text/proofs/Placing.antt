-- From where a line starts and how far into it a column is to the place of a position. Assumes nothing.
use Rattle.std.proofs.Common.{◌≡◌, ℕ, ◌+◌, ◌<◌, ◌≤◌, min, Bool, true, false, ltb, List, [], ◌∷◌, length, drop, Some, None, Option, sym, refl, ap, ◌∙◌}
use Rattle.std.proofs.lemmas.Bool.{lt-ltb, le-ltb}
use Rattle.refusals.specs.Outcomes.{refused, taken, settle}
use Rattle.text.specs.declared.places.Place.{Place}
use Rattle.text.specs.declared.places.Position.{Position}
use Rattle.text.specs.Places.{Range}
use Rattle.text.specs.Lines.{start_of, place_in, ahead}
use Rattle.text.specs.Columns.{seek, line_units}
use Rattle.text.specs.Positions.{or0, is_none, no_line, inside, place_of, cut_column, along_rule, resolve_rule, cut_rule, range_rule}
use Rattle.text.proofs.Starts.{starts, start_within}

-- where a line starts that was found
pub line_at_place : (o : Option Place) (q : Place) (s : Option ℕ) → o ≡ Some q → place_in o ≡ s → Some q.0 ≡ s
line_at_place o q s e is = sym (ap place_in e) ∙ is

-- a position that has the place q
pub record Placed (u : ℕ → ℕ) (t : List ℕ) (p : Position) (q : ℕ) : Type 0 where
  pub there : no_line t p ≡ false
  pub outside : inside u t p ≡ false
  pub place : place_of u t p ≡ q

ahead_some : (n q : ℕ) (o : Option ℕ) → Some q ≡ ahead n o → (is_none o ≡ false) × (n + or0 o ≡ q)
ahead_some n q None e = absurd (cc)
ahead_some n q (Some m) e = (refl, cc)

ahead_none_is : (n : ℕ) (o : Option ℕ) → None ≡ ahead n o → is_none o ≡ true
ahead_none_is n None e = refl
ahead_none_is n (Some m) e = absurd (cc)

-- a column along a line, by what its rule answers
module _ (u : ℕ → ℕ) (t : List ℕ) (n c : ℕ) where
  along_some : (q : ℕ) → taken q ≡ along_rule u t n c → (is_none (seek u (drop n t) c) ≡ false) × (n + or0 (seek u (drop n t) c) ≡ q)
  along_some q e = by (seek u (drop n t) c) e
    where
      by : (o : Option ℕ) → taken q ≡ settle ((13, is_none o) ∷ []) (tt {0}) (n + or0 o) → (is_none o ≡ false) × (n + or0 o ≡ q)
      by None e = absurd (cc)
      by (Some m) e = (refl, cc)

  along_none : (k : ℕ) → refused k tt ≡ along_rule u t n c → (k ≡ 13) × (is_none (seek u (drop n t) c) ≡ true)
  along_none k e = by (seek u (drop n t) c) e
    where
      by : (o : Option ℕ) → refused k (tt {0}) ≡ settle ((13, is_none o) ∷ []) (tt {0}) (n + or0 o) → (k ≡ 13) × (is_none o ≡ true)
      by None e = (cc, refl)
      by (Some m) e = absurd (cc)

module _ (u : ℕ → ℕ) (t : List ℕ) (p : Position) where
  no_line_lem : None ≡ start_of t p.line → no_line t p ≡ true
  no_line_lem e = ap is_none (sym e)

  pub resolve_no_line : None ≡ start_of t p.line → refused 12 tt ≡ resolve_rule u t p
  resolve_no_line e = let a = no_line_lem e in rw a

  pub cut_no_line : None ≡ start_of t p.line → refused 12 tt ≡ cut_rule u t p
  cut_no_line e = let a = no_line_lem e in rw a

  module _ (s : ℕ) (at : Some s ≡ start_of t p.line) where
    pub line_there : no_line t p ≡ false
    line_there = ap is_none (sym at)

    pub line_within : s ≤ length t
    line_within = (start_within (starts t p.line s (sym at))).1

    pub stuck : (k : ℕ) → refused k tt ≡ along_rule u t s p.character.0 → (k ≡ 13) × (inside u t p ≡ true)
    unfolding inside
    stuck k e = let f = along_none u t s p.character.0 k e in (f.0, rw (← at) f.1)

    pub placed : (q : ℕ) → taken q ≡ along_rule u t s p.character.0 → Placed u t p q
    unfolding inside place_of
    placed q e =
        let f = along_some u t s p.character.0 q e in
        record { there = line_there; outside = rw (← at) f.0; place = rw (← at) f.1 }

    pub resolve_from : along_rule u t s p.character.0 ≡ resolve_rule u t p
    unfolding inside place_of
    resolve_from = let a = line_there in rw (a, ← at)

  pub resolve_inside : no_line t p ≡ false → inside u t p ≡ true → refused 13 tt ≡ resolve_rule u t p
  resolve_inside a b = rw (a, b)

  pub resolve_placed : (q : ℕ) → Placed u t p q → taken q ≡ resolve_rule u t p
  resolve_placed q h = let a = h.there in let b = h.outside in let e = h.place in rw (a, b, e)

  pub cut_taken : (s k : ℕ) → Some s ≡ start_of t p.line → k ≡ min p.character.0 (line_units u (drop s t)) → taken k ≡ cut_rule u t p
  unfolding cut_column
  cut_taken s k at e = rw (← at, e)

module _ (u : ℕ → ℕ) (t : List ℕ) (r : Range) (a : no_line t r.start ≡ false) (b : no_line t r.end ≡ false) where
  pub range_inside_start : inside u t r.start ≡ true → refused 13 tt ≡ range_rule u t r
  range_inside_start x = rw (a, b, x)

  pub range_inside_end : inside u t r.start ≡ false → inside u t r.end ≡ true → refused 13 tt ≡ range_rule u t r
  range_inside_end x y = rw (a, b, x, y)

-- a range whose lines are there, by the rules of its ends
module _ (u : ℕ → ℕ) (t : List ℕ) (r : Range) (m n : ℕ) (a : Some m ≡ start_of t r.start.line) (b : Some n ≡ start_of t r.end.line) where
  pub range_stuck_start : (k : ℕ) → refused k tt ≡ along_rule u t m r.start.character.0 → refused k tt ≡ range_rule u t r
  range_stuck_start k e =
      let f = stuck u t r.start m a k e in
      let x = line_there u t r.start m a in
      let y = line_there u t r.end n b in
      rw (x, y, f.1, f.0)

  pub range_stuck_end : (k q : ℕ) → taken q ≡ along_rule u t m r.start.character.0 → refused k tt ≡ along_rule u t n r.end.character.0 → refused k tt ≡ range_rule u t r
  range_stuck_end k q d e =
      let s = placed u t r.start m a q d in
      let f = stuck u t r.end n b k e in
      let x = s.there in
      let o = s.outside in
      let y = line_there u t r.end n b in
      rw (x, y, o, f.1, f.0)

module _ (u : ℕ → ℕ) (t : List ℕ) (r : Range) (m n : ℕ) (s : Placed u t r.start m) (e : Placed u t r.end n) where
  ordered : (v : Bool) → ltb n m ≡ v → settle ((14, v) ∷ []) tt (m, n) ≡ range_rule u t r
  ordered v o =
      let a = s.there in
      let b = e.there in
      let x = s.outside in
      let y = e.outside in
      let p = s.place in
      let q = e.place in
      rw (a, b, x, y, p, q, o)

  pub range_back : n < m → refused 14 tt ≡ range_rule u t r
  range_back l = ordered true (lt-ltb n m l)

  pub range_placed : m ≤ n → taken (m, n) ≡ range_rule u t r
  range_placed l = ordered false (le-ltb n m l)
