-- Codings of lists of tokens: joined, in order, decoded, and within a word. Assumes nothing.
use Rattle.std.proofs.Common.{◌≡◌, ℕ, zero, suc, ◌+◌, ◌-◌, ◌*◌, ◌^◌, ◌<◌, ◌≤◌, cond, eqb, ◌⊎◌, List, [], ◌∷◌, ◌++◌, map, length, take, drop, Some, None, sym, refl, ap, ◌∙◌, subst, inl, inr, ⊎_elim, arith, length-drop}
use Rattle.std.specs.List.{AllByRecursion}
use Rattle.std.proofs.lemmas.List.{take_at}
use Rattle.std.proofs.lemmas.Bool.{cond-true, cond-false, cond_both, eq-eqb, ne_eqb, cases_lt, cases_Bool}
use Rattle.text.specs.Units.{Counts}
use Rattle.text.specs.Lines.{ends}
use Rattle.text.specs.Columns.{wide, units_of}
use Rattle.text.specs.Positions.{IsText}
use Rattle.languages.specs.Tokens.{Next, LanguageLaws, followed, up_to, tokens, end}
use Rattle.coding.specs.declared.placed.PlacedToken.{PlacedToken}
use Rattle.coding.specs.Placing.{line_of, column_of, placed, placed_tokens}
use Rattle.coding.specs.Coding.{code, decode, fresh, Ordered, DecodingUndoesCoding, TokensAreInOrder, FreshCodingsFitWords, FirstTokensCodeFirst}
use Rattle.coding.proofs.Moving.{wide_few, line_to, column_to, line_le, column_le}

-- the line and column that a list of tokens leaves

abbrev pub line_after : ℕ → List PlacedToken → ℕ
line_after l [] = l
line_after l (x ∷ xs) = line_after x.line xs

abbrev pub column_after : ℕ → List PlacedToken → ℕ
column_after c [] = c
column_after c (x ∷ xs) = column_after x.column xs

pub code_cut : (l c : ℕ) (xs ys : List PlacedToken) → code l c (xs ++ ys) ≡ code l c xs ++ code (line_after l xs) (column_after c xs) ys
code_cut l c [] ys = refl
code_cut l c (x ∷ xs) ys =
    ap (λ r. (x.line - l) ∷ (cond (eqb x.line l) (x.column - c) x.column ∷ (x.units ∷ (x.kind ∷ (x.modifiers ∷ r))))) (code_cut x.line x.column xs ys)

pub first_tokens_code_first : FirstTokensCodeFirst
first_tokens_code_first l c xs ys = ap (take (length (code l c xs))) (code_cut l c xs ys) ∙ take_at (code l c xs) _ (length (code l c xs)) refl

-- decoding

pub decoding_undoes_coding : DecodingUndoesCoding
decoding_undoes_coding l c [] o = refl
decoding_undoes_coding l c (x ∷ xs) o =
    let a = x.line - l in
    let b = cond (eqb x.line l) (x.column - c) x.column in
    let line : l + a ≡ x.line = ⊎_elim (λ h. omega arith) (λ h. omega (arith, h.0)) o.0 in
    let column : cond (eqb a 0) (c + b) b ≡ x.column =
    ⊎_elim
    (λ h. cond-false _ _ _ (ne_eqb a 0 (λ e. omega arith)) ∙ cond-false _ _ _ (ne_eqb x.line l (λ e. omega arith)))
    (λ h.
    let e = cond-true _ (x.column - c) x.column (eq-eqb x.line l (sym h.0)) in
    cond-true _ _ _ (eq-eqb a 0 (omega (arith, h.0))) ∙ omega (arith, h.1, e))
    o.0 in
    λ i. record { line = line i; column = column i; units = x.units; kind = x.kind; modifiers = x.modifiers } ∷ (ap (λ (p : ℕ × ℕ). decode p.0 p.1 (code x.line x.column xs)) (λ j. (line j, column j)) ∙ decoding_undoes_coding x.line x.column xs o.1) i

-- the tokens of a text are in order

-- where no line ends, the column does not fall
column_rises : (u : ℕ → ℕ) (t : List ℕ) (n c : ℕ) → line_of t n ≡ 0 → c ≤ column_of u t n c
column_rises u t zero c e = omega arith
column_rises u [] (suc n) c e = omega arith
column_rises u (b ∷ t) (suc n) c e =
    ⊎_elim
    (λ y. absurd (omega (arith, cond-true {A = ℕ} (ends b t) 1 0 y)))
    (λ y.
    let k = cond-false {A = ℕ} (ends b t) 0 (c + wide u (b ∷ t)) y in
    let h = column_rises u t n (c + wide u (b ∷ t)) (omega (arith, cond-false {A = ℕ} (ends b t) 1 0 y)) in
    subst (λ m. c ≤ column_of u t n m) (sym k) (omega (arith, h)))
    (cases_Bool (ends b t))

module _ (u : ℕ → ℕ) (next : Next) (kinds : ℕ) (t : List ℕ) (laws : LanguageLaws next kinds) (is : IsText t) where
  later : (p q : ℕ) → p ≤ q → (line_of t p < line_of t q) ⊎ ((line_of t p ≡ line_of t q) × (column_of u t p 0 ≤ column_of u t q 0))
  later p q l =
      let line = line_to t p q l in
      ⊎_elim (λ h. inl (omega arith))
      (λ h. inr (omega arith, subst (λ m. column_of u t p 0 ≤ m) (column_to t p q l u 0) (column_rises u (drop p t) (q - p) (column_of u t p 0) (omega arith))))
      (cases_lt 0 (line_of (drop p t) (q - p)))

  ordered_from : (fuel p q : ℕ) → p ≤ q → Ordered (line_of t p) (column_of u t p 0) (map (placed u t) (up_to fuel next t q))
  ordered_from zero p q l = tt
  ordered_from (suc fuel) p q l =
      (elim (next t q) as (λ v. next t q ≡ v → Ordered (line_of t p) (column_of u t p 0) (map (placed u t) (followed v (λ k. up_to fuel next t (end k))))) [
        | None ↦ λ e. tt
        | Some k ↦ λ e. let f = laws.fits t is q k e in (later p k.place.0 (omega (arith, f.start)), ordered_from fuel k.place.0 (end k) (omega arith))
      ]) refl

  in_order : Ordered 0 0 (placed_tokens u next t)
  unfolding tokens
  in_order = ordered_from (length t - 0) 0 0 (omega arith)

pub tokens_are_in_order : TokensAreInOrder
tokens_are_in_order u next kinds t laws is = in_order u next kinds t laws is

-- numbers of a fresh coding are small

module _ (u : ℕ → ℕ) (largest : ℕ) (laws : Counts u largest) where
  units_le : (t : List ℕ) (n : ℕ) → units_of u t n ≤ 4 * length t
  units_le t zero = omega arith
  units_le [] (suc n) = omega arith
  units_le (b ∷ t) (suc n) = omega (arith, units_le t n, wide_few u largest laws (b ∷ t))

pub record Low (x : PlacedToken) : Type 0 where
  pub line : x.line < 2 ^ 28
  pub column : x.column < 2 ^ 28
  pub units : x.units < 2 ^ 28
  pub kind : x.kind < 2 ^ 28
  pub modifiers : x.modifiers < 2 ^ 28

low_code : (l c : ℕ) (xs : List PlacedToken) → AllByRecursion Low xs → AllByRecursion (λ n. n < 2 ^ 28) (code l c xs)
low_code l c [] h = tt
low_code l c (x ∷ xs) h =
    let o = h.0 in
    (omega (arith, o.line), (cond_both {A = ℕ} (eqb x.line l) _ _ (λ z. z < 2 ^ 28) (λ e. omega (arith, o.column)) (λ e. o.column), (o.units, (o.kind, (o.modifiers, low_code x.line x.column xs h.1)))))

module _ (u : ℕ → ℕ) (largest : ℕ) (next : Next) (kinds : ℕ) (t : List ℕ) (counts : Counts u largest) (laws : LanguageLaws next kinds) (is : IsText t) where
  low_from : (fuel q : ℕ) → AllByRecursion Low (map (placed u t) (up_to fuel next t q))
  low_from zero q = tt
  low_from (suc fuel) q =
      (elim (next t q) as (λ v. next t q ≡ v → AllByRecursion Low (map (placed u t) (followed v (λ k. up_to fuel next t (end k))))) [
        | None ↦ λ e. tt
        | Some k ↦ λ e.
            let f = laws.fits t is q k e in
            let short = is.short in (
              record {
                line = omega (arith, line_le t k.place.0);
                column = omega (arith, column_le u largest counts t k.place.0 0);
                units = omega (arith, units_le u largest counts (drop k.place.0 t) k.length, length-drop k.place.0 t);
                kind = omega (arith, f.known, laws.few);
                modifiers = omega (arith, f.small);
              },
              low_from fuel (end k),
            )
      ]) refl

  small : AllByRecursion (λ n. n < 2 ^ 28) (fresh u next t)
  unfolding fresh tokens
  small = low_code 0 0 _ (low_from (length t - 0) 0)

pub fresh_codings_fit_words : FreshCodingsFitWords
fresh_codings_fit_words u largest next kinds t counts laws is = small u largest next kinds t counts laws is
