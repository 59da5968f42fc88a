-- What is left of a TEXT while it is read. Assumes nothing.
use Rattle.std.proofs.Common.{◌≡◌, ℕ, zero, suc, pred, ◌+◌, ◌<◌, ◌≤◌, true, false, cond, ◌==◌, List, [], ◌∷◌, ◌++◌, length, get_or, drop, Some, None, Option, refl, ap, ◌∙◌, append_assoc, arith}
use Rattle.std.specs.Option.{option_map, option_and_then}
use Rattle.std.proofs.lemmas.List.{drop_more, drop_all, length-drop}
use Rattle.std.proofs.lemmas.Option.{none-some}
use Rattle.std.proofs.lemmas.Bool.{ne_eqb}
use Rattle.notation.specs.Texts.{spelling_of, byte_of, ahead, body_of, text_of}
use Rattle.notation.specs.Numbers.{behind as mark}

-- what was read so far stands before what is read from the rest
abbrev pub behind : List ℕ → Option (List ℕ × List ℕ) → Option (List ℕ × List ℕ)
behind bs t = option_map (λ p. (bs ++ p.0, p.1)) t

pub behind_none : (t : Option (List ℕ × List ℕ)) → behind [] t ≡ t
behind_none None = refl
behind_none (Some p) = refl

pub behind_more : (bs : List ℕ) (b : ℕ) (t : Option (List ℕ × List ℕ)) → behind (bs ++ (b ∷ [])) t ≡ behind bs (ahead b t)
behind_more bs b None = refl
behind_more bs b (Some p) = ap (λ l. Some (l, p.1)) (append_assoc bs (b ∷ []) p.0)

pub body_skip : (k : ℕ) (bs : List ℕ) → body_of k bs ≡ body_of 0 (drop k bs)
body_skip zero bs = refl
body_skip (suc k) [] = refl
body_skip (suc k) (b ∷ bs) = body_skip k bs

-- what is left from a place on: no byte, the closing quote, a spelling, or a byte that spells none
module _ (bs : List ℕ) (i : ℕ) where
  pub body_end : length bs ≤ i → body_of 0 (drop i bs) ≡ None
  body_end h = rw (drop_all i bs) refl

  pub body_closed : i < length bs → get_or bs i 0 ≡ 34 → body_of 0 (drop i bs) ≡ Some ([], drop (i + 1) bs)
  body_closed h e = rw (drop_more bs i 0, e) refl

  pub body_next : i < length bs → (get_or bs i 0 ≡ 34 → ⊥) → body_of 0 (drop i bs) ≡ option_and_then (λ s. ahead s.0 (body_of (pred s.1) (drop (i + 1) bs))) (spelling_of (drop i bs))
  body_next h ne = let apart = ne_eqb (get_or bs i 0) 34 ne in rw (drop_more bs i 0, apart) refl

  pub body_ill : i < length bs → (get_or bs i 0 ≡ 34 → ⊥) → spelling_of (drop i bs) ≡ None → body_of 0 (drop i bs) ≡ None
  body_ill h ne e = body_next h ne ∙ ap (option_and_then (λ s. ahead s.0 (body_of (pred s.1) (drop (i + 1) bs)))) e

spelled : (bs : List ℕ) (b n : ℕ) → spelling_of bs ≡ Some (b, n) → 0 < n → body_of 0 bs ≡ ahead b (body_of 0 (drop n bs))
spelled [] b n e pos = cc
spelled (c ∷ cs) b zero e pos = absurd (omega arith)
spelled (c ∷ cs) b (suc m) e pos =
    let other : c ≡ 34 → ⊥ = λ h. let quote : spelling_of (34 ∷ cs) ≡ Some (b, suc m) = rw h at e in cc in
    let apart = ne_eqb c 34 other in
    let on = option_and_then (λ s. ahead s.0 (body_of (pred s.1) cs)) in
    let here : body_of 0 (c ∷ cs) ≡ on (spelling_of (c ∷ cs)) = rw apart refl in
    here ∙ ap on e ∙ ap (ahead b) (body_skip m cs)

-- a byte is spelled at the front
pub body_more : (bs rest : List ℕ) (b : ℕ) → byte_of bs ≡ Some (b, rest) → length rest < length bs → body_of 0 bs ≡ ahead b (body_of 0 rest)
body_more bs rest b e shorter =
    elim (spelling_of bs) as (λ o. spelling_of bs ≡ o → option_map {T = ℕ × ℕ} {U = ℕ × List ℕ} (λ s. (s.0, drop s.1 bs)) o ≡ Some (b, rest) → body_of 0 bs ≡ ahead b (body_of 0 rest)) [
      | None ↦ λ h e. absurd (none-some _ e)
      | Some s ↦ λ h e.
          let pair : ◌≡◌ {A = ℕ × List ℕ} (s.0, drop s.1 bs) (b, rest) = cc in
          let byte = ap (λ p. p.0) pair in
          let left = ap (λ p. p.1) pair in
          let size = length-drop s.1 bs in
          let pos : 0 < s.1 = omega (arith, ap length left, size) in
          spelled bs s.0 s.1 h pos ∙ ap (λ b. ahead b (body_of 0 (drop s.1 bs))) byte ∙ ap (λ l. ahead b (body_of 0 l)) left
    ] refl e

unspelled : (o : Option (ℕ × ℕ)) (f : ℕ × ℕ → ℕ × List ℕ) → option_map f o ≡ None → o ≡ None
unspelled None f e = refl
unspelled (Some s) f e = cc

-- none is
pub body_stop : (bs : List ℕ) → byte_of bs ≡ None → body_of 0 bs ≡ option_map (λ rest. ([], rest)) (mark 34 bs)
body_stop [] e = refl
body_stop (b ∷ bs) e =
    let none = unspelled (spelling_of (b ∷ bs)) _ e in
    let closed : List ℕ × List ℕ = ([], bs) in
    ap (λ s. cond (b == 34) (Some closed) (option_and_then (λ s. ahead s.0 (body_of (pred s.1) bs)) s)) none
    ∙ elim (b == 34) as (λ v. cond v (Some closed) None ≡ option_map (λ rest. ([], rest)) (cond v (Some bs) None)) [ true ↦ refl | false ↦ refl ]

pub text_opened : (bs : List ℕ) → text_of bs ≡ option_and_then (body_of 0) (mark 34 bs)
unfolding text_of
text_opened [] = refl
text_opened (b ∷ bs) = elim (b == 34) as (λ v. cond v (body_of 0 bs) None ≡ option_and_then (body_of 0) (cond v (Some bs) None)) [ true ↦ refl | false ↦ refl ]
