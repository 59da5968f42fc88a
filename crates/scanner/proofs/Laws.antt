-- A sound reading makes a lawful language. Assumes nothing.
use Rattle.std.proofs.Common.{◌≡◌, ℕ, ◌+◌, ◌-◌, ◌<◌, ◌≤◌, Bool, true, false, cond, List, [], ◌∷◌, ◌++◌, length, get_or, drop, Some, None, IsUtf8, Option, sym, refl, ap, ◌∙◌, subst, ⊎_elim, arith, length-append, length-drop}
use Rattle.std.specs.Str.{IsCharBoundary}
use Rattle.std.proofs.lemmas.List.{drop-append-le, drop-drop, drop_all, get_or-drop, get_or_append_left}
use Rattle.std.proofs.lemmas.Bool.{cases_lt, cases_Bool, cond-true, cond-false}
use Rattle.std.proofs.lemmas.Str.{IsCharBoundary-before_ascii, IsCharBoundary-after_ascii, IsCharBoundary-end}
use Rattle.std.proofs.lemmas.Bool.Decides.{nat_tests}
use Rattle.text.specs.Lines.{is_end, content}
use Rattle.text.proofs.Counting.{content_fits}
use Rattle.languages.specs.declared.token.Token.{Token}
use Rattle.languages.specs.Tokens.{Fits}
use Rattle.languages.proofs.Steps.{Goes, GoesOn, Past, Cut, cut_tokens}
use Rattle.scanner.specs.declared.piece.Piece.{Piece}
use Rattle.scanner.specs.Leads.{after, clear_at}
use Rattle.scanner.specs.Scan.{Reading, token, found, inner, start_of, first, next_by, Starts, Sound, SoundReadingsAreLawful}
use Rattle.scanner.proofs.Contents.{end_low, content_in, content_stop, content_cut, clear_cut}

-- where an answer comes from: a piece that the reading gives at a character's first byte
record Origin (read : Reading) (text : List ℕ) (from : ℕ) (t : Token) : Type 0 where
  at : ℕ
  later : from ≤ at
  outer : inner (get_or text at 0) ≡ false
  flag : Bool
  piece : Piece
  reads : read flag (content (drop at text)) ≡ Some piece
  is : token at piece ≡ t

some_below : {X : Type 0} (c : Bool) (o : Option X) (x : X) → cond c None o ≡ Some x → (c ≡ false) × (o ≡ Some x)
some_below true o x e = let z : ◌≡◌ {A = ℕ} 0 1 = cc in absurd (omega arith)
some_below false o x e = (refl, e)

module _ (read : Reading) (text : List ℕ) where
  origin_first : (flag : Bool) (at : ℕ) (s : List ℕ) (t : Token) → drop at text ≡ s → first read flag at s ≡ Some t → Origin read text at t
  origin_first flag at [] t d e = let z : ◌≡◌ {A = ℕ} 0 1 = cc in absurd (omega arith)
  origin_first flag at (b ∷ bs) t d e =
      (elim (start_of read flag (b ∷ bs)) as (λ v. start_of read flag (b ∷ bs) ≡ v → found at v (first read (after flag b) (at + 1) bs) ≡ Some t → Origin read text at t) [
        | None ↦ λ _ q.
            let o = origin_first (after flag b) (at + 1) bs t (sym (drop-drop 1 at text) ∙ ap (drop 1) d) q in
            record { at = o.at; later = omega (arith, o.later); outer = o.outer; flag = o.flag; piece = o.piece; reads = o.reads; is = o.is }
        | Some p ↦ λ r q.
            let s = some_below (inner b) (read flag (content (b ∷ bs))) p r in
            let k : at ≡ at + 0 = omega arith in
            let byte : get_or text at 0 ≡ b = ap (λ (j : ℕ). get_or text j 0) k ∙ sym (get_or-drop at text 0 0) ∙ ap (λ l. get_or l 0 0) d in
            record { at = at; later = omega arith; outer = ap inner byte ∙ s.0; flag = flag; piece = p; reads = ap (λ l. read flag (content l)) d ∙ s.1; is = cc }
      ]) refl e

  origin : (from : ℕ) (t : Token) → next_by read text from ≡ Some t → Origin read text from t
  origin from t e = origin_first (clear_at text from) from (drop from text) t refl (some_below (inner (get_or text from 0)) _ t e).1

-- a piece that a sound reading gives at a place, as the answer from that place or one before
module _ (text : List ℕ) (kinds from at : ℕ) (later : from ≤ at) (p : Piece) (s : Starts (content (drop at text)) kinds p) where
  abbrev line : List ℕ
  line = content (drop at text)

  left : length (drop at text) ≡ length text - at
  left = length-drop at text

  short : length line ≤ length (drop at text)
  short = content_fits (drop at text)

  byte : (k : ℕ) → get_or (drop at text) k 0 ≡ get_or text (at + k) 0
  byte k = get_or-drop at text k 0

  goes_at : Goes text from (token at p)
  goes_at = record { start = later; some = s.some; inside = omega (arith, left, short, s.some, s.inside) }

  one_line : (i : ℕ) → at ≤ i → i < at + p.length → is_end (get_or text i 0) ≡ false
  one_line i l h =
      let k : at + (i - at) ≡ i = omega arith in
      subst (λ (j : ℕ). is_end (get_or text j 0) ≡ false) k (subst (λ (b : ℕ). is_end b ≡ false) (byte (i - at)) (content_in (drop at text) (i - at) (omega (arith, s.inside))).1)

  -- behind an ASCII character, before a line end, or at the text's end
  ends : IsUtf8 text → IsCharBoundary text (at + p.length)
  ends u = ⊎_elim
      (λ l.
      let n : at + (p.length - 1) + 1 ≡ at + p.length = omega (arith, s.some) in
      let b : get_or text (at + (p.length - 1)) 0 ≡ get_or line (p.length - 1) 0 = sym (byte (p.length - 1)) ∙ sym (content_in (drop at text) (p.length - 1) (omega (arith, s.some))).0 in
      subst (IsCharBoundary text) n (IsCharBoundary-after_ascii text (at + (p.length - 1)) u (omega (arith, left, short, s.some)) (omega (arith, s.closed l))))
      (λ l.
      let n : length line ≡ p.length = omega (arith, s.inside) in
      ⊎_elim
      (λ m.
      let stop : is_end (get_or (drop at text) (length line) 0) ≡ true = content_stop (drop at text) (omega (arith, left)) in
      let end : is_end (get_or (drop at text) p.length 0) ≡ true = subst (λ (j : ℕ). is_end (get_or (drop at text) j 0) ≡ true) n stop in
      IsCharBoundary-before_ascii text (at + p.length) m (end_low _ (subst (λ (b : ℕ). is_end b ≡ true) (byte p.length) end)))
      (λ m. let q : length text ≡ at + p.length = omega (arith, goes_at.inside) in subst (IsCharBoundary text) q (IsCharBoundary-end text))
      (cases_lt (at + p.length) (length text)))
      (cases_lt p.length (length line))

  fits_at : IsUtf8 text → inner (get_or text at 0) ≡ false → Fits text from kinds (token at p)
  fits_at u o =
      record {
        start = later;
        some = s.some;
        inside = goes_at.inside;
        begins = (omega (arith, goes_at.inside), λ _ m. let q : 192 ≤ get_or text at 0 = grind (arith, nat_tests) in q);
        ends = ends u;
        one_line = one_line;
        known = s.known;
        small = s.small;
      }

-- a text that ends a line, and what follows it
module _ (read : Reading) (p x : List ℕ) (e : ℕ) (l : is_end e ≡ true) where
  abbrev front : List ℕ
  front = p ++ (e ∷ [])

  past : (n : ℕ) (flag : Bool) (at : ℕ) (s : List ℕ) → n ≤ at → Past n (first read flag at s)
  past n flag at [] h = tt
  past n flag at (b ∷ bs) h = elim (start_of read flag (b ∷ bs)) as (λ v. Past n (found at v (first read (after flag b) (at + 1) bs))) [
    | None ↦ past n (after flag b) (at + 1) bs (omega arith)
    | Some q ↦ h
  ]

  cut_step : (n : ℕ) (flag : Bool) (at b : ℕ) (bs : List ℕ) → content (b ∷ (bs ++ x)) ≡ content (b ∷ bs) → Cut n (first read (after flag b) (at + 1) bs) (first read (after flag b) (at + 1) (bs ++ x))
      → Cut n (first read flag at (b ∷ bs)) (first read flag at (b ∷ (bs ++ x)))
  cut_step n flag at b bs same rest =
      subst (λ line. Cut n (first read flag at (b ∷ bs)) (found at (cond (inner b) None (read flag line)) (first read (after flag b) (at + 1) (bs ++ x)))) (sym same)
      (elim (start_of read flag (b ∷ bs)) as (λ v. Cut n (found at v (first read (after flag b) (at + 1) bs)) (found at v (first read (after flag b) (at + 1) (bs ++ x)))) [
        | None ↦ rest
        | Some q ↦ refl
      ])

  cut_first : (n : ℕ) (flag : Bool) (at : ℕ) (s : List ℕ) → at + length s + 1 ≡ n → Cut n (first read flag at (s ++ (e ∷ []))) (first read flag at ((s ++ (e ∷ [])) ++ x))
  cut_first n flag at [] h = cut_step n flag at e [] (content_cut [] x e l) (past n (after flag e) (at + 1) x (omega arith))
  cut_first n flag at (b ∷ bs) h = cut_step n flag at b (bs ++ (e ∷ [])) (content_cut (b ∷ bs) x e l) (cut_first n (after flag b) (at + 1) bs (omega arith))

  cut_next : (from : ℕ) → from ≤ length front → Cut (length front) (next_by read front from) (next_by read (front ++ x) from)
  cut_next from h = ⊎_elim
      (λ m.
      let within : from ≤ length p = omega (arith, length-append p (e ∷ [])) in
      let left : from + length (drop from p) + 1 ≡ length front = omega (arith, length-drop from p, length-append p (e ∷ [])) in
      rw (get_or_append_left front x 0 from m, clear_cut front x from h, drop-append-le from front x h, drop-append-le from p (e ∷ []) within)
      (elim (inner (get_or front from 0)) as (λ v. Cut (length front) (cond v None (first read (clear_at front from) from (drop from p ++ (e ∷ [])))) (cond v None (first read (clear_at front from) from ((drop from p ++ (e ∷ [])) ++ x)))) [
        | true ↦ tt
        | false ↦ cut_first (length front) (clear_at front from) from (drop from p) left
      ]))
      (λ m.
      let none : next_by read front from ≡ None = rw (drop_all from front m) (elim (inner (get_or front from 0)) as (λ v. cond {A = Option Token} v None None ≡ None) [ true ↦ refl | false ↦ refl ]) in
      rw none
      (elim (inner (get_or (front ++ x) from 0)) as (λ v. Past (length front) (cond v None (first read (clear_at (front ++ x) from) from (drop from (front ++ x))))) [
        | true ↦ tt
        | false ↦ past (length front) (clear_at (front ++ x) from) from (drop from (front ++ x)) m
      ]))
      (cases_lt from (length front))

astray : (read : Reading) (text : List ℕ) (from : ℕ) → (IsCharBoundary text from → ⊥) → next_by read text from ≡ None
astray read text from h = ⊎_elim
    (λ i. cond-true (inner (get_or text from 0)) _ _ i)
    (λ o. cond-false (inner (get_or text from 0)) _ _ o ∙ ap (first read (clear_at text from) from) (drop_all from text (⊎_elim
    (λ l. absurd (h (omega arith, λ _ m. let q : 192 ≤ get_or text from 0 = grind (arith, nat_tests) in q)))
    (λ l. l)
    (cases_lt from (length text)))))
    (cases_Bool (inner (get_or text from 0)))

module _ (read : Reading) (kinds : ℕ) (sound : Sound read kinds) where
  goes : (text : List ℕ) → GoesOn (next_by read) text
  goes text from t e =
      let o = origin read text from t e in
      subst (Goes text from) o.is (goes_at text kinds from o.at o.later o.piece (sound o.flag _ o.piece o.reads))

  fits : (text : List ℕ) → IsUtf8 text → (from : ℕ) (t : Token) → next_by read text from ≡ Some t → Fits text from kinds t
  fits text u from t e =
      let o = origin read text from t e in
      subst (Fits text from kinds) o.is (fits_at text kinds from o.at o.later o.piece (sound o.flag _ o.piece o.reads) u o.outer)

pub sound_readings_are_lawful : SoundReadingsAreLawful
sound_readings_are_lawful read kinds few sound =
    record {
      few = few;
      fits = λ text is. fits read kinds sound text is.whole;
      astray = λ text _. astray read text;
      beginnings = λ p x y e l _ _.
          let front : List ℕ = p ++ (e ∷ []) in
          let go = goes read kinds sound in
          cut_tokens (next_by read) front x (go front) (go (front ++ x)) (cut_next read p x e l) ∙
          sym (cut_tokens (next_by read) front y (go front) (go (front ++ y)) (cut_next read p y e l));
    }
