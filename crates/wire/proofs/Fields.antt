-- What a field that was read tells of the bytes. Assumes nothing.
use Rattle.std.proofs.Common.{◌≡◌, ℕ, zero, suc, ◌+◌, ◌*◌, ◌/◌, ◌%◌, ◌^◌, ◌<◌, ◌≤◌, Bool, true, false, cond, eqb, leb, List, [], ◌∷◌, ◌++◌, length, get_or, drop, Some, None, Option, sym, refl, ap, ◌∙◌, append_assoc, arith, length-append}
use Rattle.std.specs.List.{AllByRecursion}
use Rattle.std.proofs.lemmas.List.{get_or-append-add, drop_more}
use Rattle.std.proofs.lemmas.Bool.{and_parts, leb-true, eqb-true, le-leb, eq-eqb}
use Rattle.std.proofs.lemmas.Bool.Decides.{nat_tests}
use Rattle.wire.specs.declared.words.Word.{Word}
use Rattle.wire.specs.Words.{word_at, word_of, bytes_of, field_at, words, Fitting, Octets}

pub some_if : {X : Type 0} (b : Bool) (o : Option X) (x : X) → Some x ≡ cond b o None → (b ≡ true) × (Some x ≡ o)
some_if true o x e = (refl, e)
some_if false o x e = absurd (cc)

module _ (bs : List ℕ) (i kind low high v : ℕ) (e : Some v ≡ field_at bs i kind low high) where
  there : (i + 4 ≤ length bs) × (word_at bs i / 268435456 ≡ kind) × (low ≤ word_at bs i % 268435456) × (word_at bs i % 268435456 ≤ high) × (v ≡ word_at bs i % 268435456)
  unfolding field_at
  there =
      let outer = some_if _ _ v e in
      let inner = some_if _ _ v outer.1 in
      let kinds = and_parts _ _ inner.0 in
      let values = and_parts _ _ kinds.1 in
      (leb-true _ _ outer.0, eqb-true _ _ kinds.0, leb-true _ _ values.0, leb-true _ _ values.1, cc)

  pub field_there : i + 4 ≤ length bs
  field_there = there.0

  pub field_low : low ≤ v
  field_low = omega (arith, there.2, there.4)

  pub field_high : v ≤ high
  field_high = omega (arith, there.3, there.4)

  -- it is the whole word
  pub field_word : word_at bs i ≡ kind * 268435456 + v
  field_word = omega (arith, there.1, there.4)

-- the value of a word that was written, at its place

module _ (k v : ℕ) (rest : List ℕ) (kinds : k < 16) (values : v < 2 ^ 28) where
  whole : (w : ℕ) → w < 4294967296 → word_at (bytes_of w ++ rest) 0 ≡ w
  whole w lt =
      let low : w / 65536 ≡ w / 256 / 256 = omega arith in
      let high : w / 16777216 ≡ w / 65536 / 256 = omega arith in
      let first : w / 16777216 % 256 ≡ w / 16777216 = omega arith in
      let second : w / 65536 ≡ 256 * (w / 16777216) + w / 65536 % 256 = omega (arith, high) in
      let third : w / 256 ≡ 256 * (w / 65536) + w / 256 % 256 = omega (arith, low) in
      omega (arith, first, second, third)

  written : word_at (word_of k v ++ rest) 0 ≡ k * 268435456 + v
  unfolding word_of
  written = whole (k * 268435456 + v) (omega arith)

  four : length (word_of k v) ≡ 4
  unfolding word_of
  four = refl

  pub field_written : (low high : ℕ) → low ≤ v → v ≤ high → field_at (word_of k v ++ rest) 0 k low high ≡ Some v
  unfolding field_at
  field_written low high l h =
      let w = written in
      let there : leb (0 + 4) (length (word_of k v ++ rest)) ≡ true = le-leb _ _ (omega (arith, length-append (word_of k v) rest, four)) in
      let kind : eqb (word_at (word_of k v ++ rest) 0 / 268435456) k ≡ true = eq-eqb _ _ (omega (arith, w)) in
      let value : word_at (word_of k v ++ rest) 0 % 268435456 ≡ v = omega (arith, w) in
      let over : leb low v ≡ true = le-leb _ _ l in
      let under : leb v high ≡ true = le-leb _ _ h in
      rw (there, kind, value, over, under)

  -- the words behind it are where they were, four bytes on
  moved : (i : ℕ) → get_or (word_of k v ++ rest) (4 + i) 0 ≡ get_or rest i 0
  moved i = ap (λ (n : ℕ). get_or (word_of k v ++ rest) (n + i) 0) (sym four) ∙ get_or-append-add (word_of k v) rest i 0

  pub field_behind : (i kind low high : ℕ) → field_at (word_of k v ++ rest) (4 + i) kind low high ≡ field_at rest i kind low high
  unfolding field_at
  field_behind i kind low high =
      let a = moved i in
      let b : get_or (word_of k v ++ rest) (4 + i + 1) 0 ≡ get_or rest (i + 1) 0 = ap (λ (n : ℕ). get_or (word_of k v ++ rest) n 0) (let e : 4 + i + 1 ≡ 4 + (i + 1) = omega arith in e) ∙ moved (i + 1) in
      let c : get_or (word_of k v ++ rest) (4 + i + 2) 0 ≡ get_or rest (i + 2) 0 = ap (λ (n : ℕ). get_or (word_of k v ++ rest) n 0) (let e : 4 + i + 2 ≡ 4 + (i + 2) = omega arith in e) ∙ moved (i + 2) in
      let d : get_or (word_of k v ++ rest) (4 + i + 3) 0 ≡ get_or rest (i + 3) 0 = ap (λ (n : ℕ). get_or (word_of k v ++ rest) n 0) (let e : 4 + i + 3 ≡ 4 + (i + 3) = omega arith in e) ∙ moved (i + 3) in
      let long : length (word_of k v ++ rest) ≡ 4 + length rest = omega (arith, length-append (word_of k v) rest, four) in
      let there : leb (4 + i + 4) (length (word_of k v ++ rest)) ≡ leb (i + 4) (length rest) = grind (arith, nat_tests, long) in
      rw (there, a, b, c, d)

-- the value of the word with that number
pub field_nth : (ws : List Word) (t : List ℕ) (n : ℕ) (d : Word) (low high : ℕ) → AllByRecursion Fitting ws → n < length ws → low ≤ (get_or ws n d).1 → (get_or ws n d).1 ≤ high
    → field_at (words ws ++ t) (4 * n) (get_or ws n d).0 low high ≡ Some (get_or ws n d).1
field_nth [] t n d low high a lt l h = absurd (omega arith)
field_nth (w ∷ ws) t zero d low high a lt l h =
    ap (λ b. field_at b 0 w.0 low high) (append_assoc (word_of w.0 w.1) (words ws) t) ∙ field_written w.0 w.1 (words ws ++ t) a.0.0 a.0.1 low high l h
field_nth (w ∷ ws) t (suc n) d low high a lt l h =
    let kind = (get_or ws n d).0 in
    (λ i. field_at (append_assoc (word_of w.0 w.1) (words ws) t i) (further i) kind low high)
    ∙ field_behind w.0 w.1 (words ws ++ t) a.0.0 a.0.1 (4 * n) kind low high ∙ field_nth ws t n d low high a.1 (omega arith) l h
  where
    further : 4 * suc n ≡ 4 + 4 * n
    further = omega arith

-- bytes, and the word that they are

four_bytes : (a b c d : ℕ) → a < 256 → b < 256 → c < 256 → d < 256 → bytes_of (a * 16777216 + b * 65536 + c * 256 + d) ≡ a ∷ (b ∷ (c ∷ (d ∷ [])))
four_bytes a b c d la lb lc ld =
    let w = a * 16777216 + b * 65536 + c * 256 + d in
    let p : w / 16777216 % 256 ≡ a = omega arith in
    let q : w / 65536 % 256 ≡ b = omega arith in
    let r : w / 256 % 256 ≡ c = omega arith in
    let s : w % 256 ≡ d = omega arith in
    λ i. p i ∷ (q i ∷ (r i ∷ (s i ∷ [])))

module _ (bs : List ℕ) (octets : Octets bs) (i : ℕ) where
  spread : i + 4 ≤ length bs → drop i bs ≡ bytes_of (word_at bs i) ++ drop (i + 4) bs
  spread l =
      drop_more bs i 0 (omega arith)
      ∙ ap (λ r. get_or bs i 0 ∷ r) (drop_more bs (i + 1) 0 (omega arith) ∙ ap (λ (n : ℕ). get_or bs (i + 1) 0 ∷ drop n bs) (let e : i + 1 + 1 ≡ i + 2 = omega arith in e)
      ∙ ap (λ r. get_or bs (i + 1) 0 ∷ r) (drop_more bs (i + 2) 0 (omega arith) ∙ ap (λ (n : ℕ). get_or bs (i + 2) 0 ∷ drop n bs) (let e : i + 2 + 1 ≡ i + 3 = omega arith in e)
      ∙ ap (λ r. get_or bs (i + 2) 0 ∷ r) (drop_more bs (i + 3) 0 (omega arith) ∙ ap (λ (n : ℕ). get_or bs (i + 3) 0 ∷ drop n bs) (let e : i + 3 + 1 ≡ i + 4 = omega arith in e))))
      ∙ ap (λ b. b ++ drop (i + 4) bs) (sym (four_bytes _ _ _ _ (octets i) (octets (i + 1)) (octets (i + 2)) (octets (i + 3))))

  -- a field that was read is that word, with nothing between it and what follows
  pub field_here : (kind low high v : ℕ) → field_at bs i kind low high ≡ Some v → drop i bs ≡ word_of kind v ++ drop (i + 4) bs
  unfolding word_of
  field_here kind low high v e = spread (field_there bs i kind low high v (sym e)) ∙ ap (λ w. bytes_of w ++ drop (i + 4) bs) (field_word bs i kind low high v (sym e))

-- words that stand one behind another from a place on
abbrev pub Stand : List ℕ → ℕ → List Word → Type 0
Stand bs i [] = Unit {0}
Stand bs i (w ∷ ws) = (drop i bs ≡ word_of w.0 w.1 ++ drop (i + 4) bs) × Stand bs (i + 4) ws

pub stand_words : (bs : List ℕ) (i : ℕ) (ws : List Word) → Stand bs i ws → drop i bs ≡ words ws ++ drop (i + 4 * length ws) bs
stand_words bs i [] h = ap (λ (n : ℕ). drop n bs) (let e : i ≡ i + 4 * 0 = omega arith in e)
stand_words bs i (w ∷ ws) h =
    h.0 ∙ ap (λ r. word_of w.0 w.1 ++ r) (stand_words bs (i + 4) ws h.1 ∙ ap (λ (n : ℕ). words ws ++ drop n bs) (let e : i + 4 + 4 * length ws ≡ i + 4 * length (w ∷ ws) = omega arith in e))
    ∙ sym (append_assoc (word_of w.0 w.1) (words ws) (drop (i + 4 * length (w ∷ ws)) bs))
