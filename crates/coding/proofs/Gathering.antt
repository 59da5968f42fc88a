-- One token more at the end of a coding. Assumes nothing.
use Rattle.std.proofs.Common.{◌≡◌, ℕ, ◌+◌, ◌-◌, ◌*◌, cond, eqb, List, [], ◌∷◌, ◌++◌, map, length, drop, sym, refl, ap, ◌∙◌, arith, length-drop, get_or-drop}
use Rattle.std.proofs.lemmas.List.{append_assoc, length-map}
use Rattle.text.specs.Lines.{is_end}
use Rattle.text.specs.Columns.{units_of}
use Rattle.languages.specs.declared.token.Token.{Token}
use Rattle.text.specs.Positions.{IsText}
use Rattle.languages.specs.Tokens.{Next, Fits, LanguageLaws, rest, tokens, end}
use Rattle.languages.proofs.Steps.{first_left}
use Rattle.coding.specs.declared.placed.PlacedToken.{PlacedToken}
use Rattle.coding.specs.Placing.{column_of, placed}
use Rattle.coding.specs.Coding.{code, fresh}
use Rattle.coding.proofs.Moving.{column_split, column_flat}

-- what is coded so far, with the five numbers of the next token, whose line and column are l₂ and c₂
pub coded_more : (r s all : List ℕ) (a b n l c l₂ c₂ : ℕ) (x : PlacedToken) (xs : List PlacedToken)
    → s ≡ r ++ (a ∷ (b ∷ (n ∷ (x.kind ∷ (x.modifiers ∷ []))))) → l₂ ≡ x.line → c₂ ≡ x.column → a ≡ l₂ - l → b ≡ cond (eqb l₂ l) (c₂ - c) c₂ → n ≡ x.units
    → r ++ code l c (x ∷ xs) ≡ all → s ++ code l₂ c₂ xs ≡ all
coded_more r s all a b n l c l₂ c₂ x xs e el ec ea eb en h =
    ap (λ z. z ++ code l₂ c₂ xs) e ∙ append_assoc r (a ∷ (b ∷ (n ∷ (x.kind ∷ (x.modifiers ∷ []))))) (code l₂ c₂ xs)
    ∙ (λ i. r ++ (ea i ∷ (eb i ∷ (en i ∷ (x.kind ∷ (x.modifiers ∷ code l₂ c₂ xs))))))
    ∙ (λ i. r ++ ((el i - l) ∷ (cond (eqb (el i) l) (ec i - c) (ec i) ∷ (x.units ∷ (x.kind ∷ (x.modifiers ∷ code (el i) (ec i) xs))))))
    ∙ h

pub code_length : (l c : ℕ) (xs : List PlacedToken) → length (code l c xs) ≡ 5 * length xs
code_length l c [] = refl
code_length l c (x ∷ xs) = let h = code_length x.line x.column xs in omega arith

pub fresh_length : (u : ℕ → ℕ) (next : Next) (t : List ℕ) → length (fresh u next t) ≡ 5 * length (tokens next t)
unfolding fresh
fresh_length u next t = code_length 0 0 (map (placed u t) (tokens next t)) ∙ ap (λ (n : ℕ). 5 * n) (length-map (tokens next t) (placed u t))

-- the columns at both ends of a token, and its units
module _ (u : ℕ → ℕ) (t : List ℕ) (from kinds : ℕ) (k : Token) (f : Fits t from kinds k) where
  pub units_are : (c : ℕ) → column_of u (drop k.place.0 t) k.length c ≡ c + units_of u (drop k.place.0 t) k.length
  units_are c =
      let p = k.place.0 in
      column_flat u (drop p t) k.length c (omega (arith, length-drop p t, f.inside))
      (λ i l. ap is_end (get_or-drop p t i 0) ∙ f.one_line (p + i) (omega arith) (omega arith))

  pub units_between : column_of u t (end k) 0 ≡ column_of u t k.place.0 0 + units_of u (drop k.place.0 t) k.length
  units_between = let p = k.place.0 in sym (column_split u t p k.length 0) ∙ units_are (column_of u t p 0)

-- the first of the tokens that are left fits, and the others are those from its end on
pub next_left : {next : Next} {kinds : ℕ} → LanguageLaws next kinds → (t : List ℕ) → IsText t → (from : ℕ) (k : Token) (left others : List Token)
    → left ≡ rest next t from → left ≡ k ∷ others → Fits t from kinds k × (rest next t (end k) ≡ others)
next_left laws t is from k left others e f = let s = first_left laws t is from k others (sym e ∙ f) in (s.0.fits, s.1)
