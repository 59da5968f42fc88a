-- No message has a second spelling: bytes that are read as a message are those that are written of it. Assumes nothing.
use Rattle.std.proofs.Common.{◌≡◌, ℕ, ◌+◌, ◌*◌, Bool, true, false, cond, eqb, List, ◌++◌, length, get_or, drop, Some, None, Option, sym, refl, ap, ◌∙◌, arith, length-drop}
use Rattle.std.proofs.lemmas.List.{drop_all, get_or-drop}
use Rattle.std.proofs.lemmas.Bool.{eqb-true}
use Rattle.text.specs.declared.places.Position.{Position}
use Rattle.wire.specs.Words.{field_at, words, Octets}
use Rattle.wire.specs.Frames.{frame_of}
use Rattle.wire.proofs.Fields.{some_if, field_low, field_high, field_here, Stand, stand_words}
use Rattle.wire.proofs.Framing.{frame_read}
use Rattle.requests.specs.Messages.{Up, text_of, up_open, up_type, up_replace, up_save, up_close, up_ask_full, up_ask_delta}
use Rattle.requests.specs.Bodies.{and, words_of, body_of, opening_at, count_at, value_at, position, position_at, text_at, ending, reading_open, reading_type, reading_replace, reading_save, reading_close, reading_ask_full, reading_ask_delta, read_as, reading}
use Rattle.requests.specs.Frames.{ReadIsWritten}

-- what was read of two parts

some_and : {X Y R : Type 0} (o : Option X) (f : X → Option Y) (y : Y) → and o f ≡ Some y → ((x : X) → o ≡ Some x → f x ≡ Some y → R) → R
some_and None f y e k = absurd (cc)
some_and (Some x) f y e k = k x refl e

choose : {X R : Type 0} (b : Bool) (x y : Option X) (m : X) → cond b x y ≡ Some m → (b ≡ true → x ≡ Some m → R) → (y ≡ Some m → R) → R
choose true x y m e f g = f refl e
choose false x y m e f g = g e

module _ (bs : List ℕ) (octets : Octets bs) where
  spelled : (m : Up) → Stand bs 0 (words_of m) → drop (4 * length (words_of m)) bs ≡ text_of m → body_of m ≡ bs
  spelled m h e =
      sym (stand_words bs 0 (words_of m) h ∙ ap (λ r. words (words_of m) ++ r) (ap (λ (n : ℕ). drop n bs) (let z : 0 + 4 * length (words_of m) ≡ 4 * length (words_of m) = omega arith in z) ∙ e))

  ended : (n : ℕ) (x m : Up) → ending bs n x ≡ Some m → (length bs ≡ n) × (m ≡ x)
  ended n x m e = let p = some_if _ _ m (sym e) in (eqb-true _ _ p.0, (let q = p.1 in cc))

  texted : (i : ℕ) (t : List ℕ) → text_at bs i ≡ Some t → (value_at bs i 8 ≡ Some (length t)) × (drop (i + 4) bs ≡ t)
  texted i t e =
      some_and (value_at bs i 8) (λ (n : ℕ). cond (eqb (length bs) (i + 4 + n)) (Some (drop (i + 4) bs)) None) t e (λ n h f.
      let p = some_if _ _ t (sym f) in
      let l = eqb-true (length bs) (i + 4 + n) p.0 in
      let d : drop (i + 4) bs ≡ t = let q = p.1 in cc in
      (h ∙ ap Some (let z : n ≡ length t = omega (arith, length-drop (i + 4) bs, ap length d) in z), d))

  save_only : (m : Up) → value_at bs 0 1 ≡ Some 4 → reading_save bs ≡ Some m → body_of m ≡ bs
  save_only m z e =
      some_and (opening_at bs) _ m e (λ o a e. some_and (count_at bs 8 3) _ m e (λ v b e.
      let p = ended 12 (up_save o v) m e in
      ap body_of p.1 ∙ spelled (up_save o v) (field_here bs octets 0 1 _ _ 4 z, (field_here bs octets 4 2 _ _ o a, (field_here bs octets 8 3 _ _ v b, tt))) (drop_all 12 bs (omega (arith, p.0)))))

  close_only : (m : Up) → value_at bs 0 1 ≡ Some 5 → reading_close bs ≡ Some m → body_of m ≡ bs
  close_only m z e =
      some_and (opening_at bs) _ m e (λ o a e.
      let p = ended 8 (up_close o) m e in
      ap body_of p.1 ∙ spelled (up_close o) (field_here bs octets 0 1 _ _ 5 z, (field_here bs octets 4 2 _ _ o a, tt)) (drop_all 8 bs (omega (arith, p.0))))

  ask_full_only : (m : Up) → value_at bs 0 1 ≡ Some 6 → reading_ask_full bs ≡ Some m → body_of m ≡ bs
  ask_full_only m z e =
      some_and (opening_at bs) _ m e (λ o a e. some_and (count_at bs 8 6) _ m e (λ r b e.
      let p = ended 12 (up_ask_full o r) m e in
      ap body_of p.1 ∙ spelled (up_ask_full o r) (field_here bs octets 0 1 _ _ 6 z, (field_here bs octets 4 2 _ _ o a, (field_here bs octets 8 6 _ _ r b, tt))) (drop_all 12 bs (omega (arith, p.0)))))

  ask_delta_only : (m : Up) → value_at bs 0 1 ≡ Some 7 → reading_ask_delta bs ≡ Some m → body_of m ≡ bs
  ask_delta_only m z e =
      some_and (opening_at bs) _ m e (λ o a e. some_and (count_at bs 8 6) _ m e (λ r b e. some_and (count_at bs 12 7) _ m e (λ i c e.
      let p = ended 16 (up_ask_delta o r i) m e in
      ap body_of p.1
      ∙ spelled (up_ask_delta o r i) (field_here bs octets 0 1 _ _ 7 z, (field_here bs octets 4 2 _ _ o a, (field_here bs octets 8 6 _ _ r b, (field_here bs octets 12 7 _ _ i c, tt)))) (drop_all 16 bs (omega (arith, p.0))))))

  open_only : (m : Up) → value_at bs 0 1 ≡ Some 1 → reading_open bs ≡ Some m → body_of m ≡ bs
  open_only m z e =
      some_and (opening_at bs) _ m e (λ o a e. some_and (field_at bs 8 3 1 1) _ m e (λ v b e. some_and (text_at bs 12) _ m e (λ t c e.
      let one : v ≡ 1 = omega (arith, field_low bs 8 3 1 1 v (sym b), field_high bs 8 3 1 1 v (sym b)) in
      let x = texted 12 t c in
      let is : m ≡ up_open o t = cc in
      ap body_of is
      ∙ spelled (up_open o t) (field_here bs octets 0 1 _ _ 1 z, (field_here bs octets 4 2 _ _ o a, (field_here bs octets 8 3 1 1 1 (b ∙ ap Some one), (field_here bs octets 12 8 _ _ (length t) x.0, tt)))) x.1)))

  replace_only : (m : Up) → value_at bs 0 1 ≡ Some 3 → reading_replace bs ≡ Some m → body_of m ≡ bs
  replace_only m z e =
      some_and (opening_at bs) _ m e (λ o a e. some_and (count_at bs 8 3) _ m e (λ v b e. some_and (text_at bs 12) _ m e (λ t c e.
      let x = texted 12 t c in
      let is : m ≡ up_replace o v t = cc in
      ap body_of is
      ∙ spelled (up_replace o v t) (field_here bs octets 0 1 _ _ 3 z, (field_here bs octets 4 2 _ _ o a, (field_here bs octets 8 3 _ _ v b, (field_here bs octets 12 8 _ _ (length t) x.0, tt)))) x.1)))

  placed : {R : Type 0} (i : ℕ) (p : Position) → position_at bs i ≡ Some p → (value_at bs i 4 ≡ Some p.line → value_at bs (i + 4) 5 ≡ Some p.character.0 → R) → R
  placed i p e k =
      some_and (value_at bs i 4) _ p e (λ l a e. some_and (value_at bs (i + 4) 5) _ p e (λ c b e.
      let is : position l c ≡ p = cc in
      k (a ∙ ap (λ (q : Position). Some q.line) is) (b ∙ ap (λ (q : Position). Some q.character.0) is)))

  type_only : (m : Up) → value_at bs 0 1 ≡ Some 2 → reading_type bs ≡ Some m → body_of m ≡ bs
  type_only m z e =
      some_and (opening_at bs) _ m e (λ o a e. some_and (count_at bs 8 3) _ m e (λ v b e. some_and (position_at bs 12) _ m e (λ p from e. some_and (position_at bs 20) _ m e (λ q to e. some_and (text_at bs 28) _ m e (λ t c e.
      placed 12 p from (λ fl fc. placed 20 q to (λ tl tc.
      let x = texted 28 t c in
      let is : m ≡ up_type o v (record { start = p; end = q }) t = cc in
      ap body_of is
      ∙ spelled (up_type o v (record { start = p; end = q }) t)
      (field_here bs octets 0 1 _ _ 2 z, (field_here bs octets 4 2 _ _ o a, (field_here bs octets 8 3 _ _ v b, (field_here bs octets 12 4 _ _ p.line fl, (field_here bs octets 16 5 _ _ p.character.0 fc, (field_here bs octets 20 4 _ _ q.line tl, (field_here bs octets 24 5 _ _ q.character.0 tc, (field_here bs octets 28 8 _ _ (length t) x.0, tt))))))))
      x.1)))))))

  body_only : (m : Up) → reading bs ≡ Some m → body_of m ≡ bs
  body_only m e =
      some_and (value_at bs 0 1) (λ (n : ℕ). read_as n bs) m e (λ n z e.
      let at : (k : ℕ) → eqb n k ≡ true → value_at bs 0 1 ≡ Some k = λ k t. z ∙ ap Some (eqb-true n k t) in
      choose (eqb n 1) _ _ m e (λ t. open_only m (at 1 t)) (λ e. choose (eqb n 2) _ _ m e (λ t. type_only m (at 2 t)) (λ e. choose (eqb n 3) _ _ m e (λ t. replace_only m (at 3 t)) (λ e.
      choose (eqb n 4) _ _ m e (λ t. save_only m (at 4 t)) (λ e. choose (eqb n 5) _ _ m e (λ t. close_only m (at 5 t)) (λ e. choose (eqb n 6) _ _ m e (λ t. ask_full_only m (at 6 t)) (λ e.
      choose (eqb n 7) _ _ m e (λ t. ask_delta_only m (at 7 t)) (λ e. absurd (cc)))))))))

pub read_is_written : ReadIsWritten
read_is_written bs m octets e =
    frame_read reading bs m e (λ body start is f r.
    let inside : Octets body = λ i. omega (arith, octets (start + i), ap (λ (b : List ℕ). get_or b i 0) is, get_or-drop start bs i 0) in
    ap frame_of (body_only body inside m r) ∙ f)
