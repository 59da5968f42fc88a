-- The token list, asked step by step, and the law of beginnings from what each answer keeps. Assumes nothing.
use Rattle.std.proofs.Common.{◌≡◌, ℕ, zero, suc, ◌-◌, ◌<◌, ◌≤◌, List, [], ◌∷◌, ◌++◌, length, Some, None, Option, MatchOption, sym, refl, ap, ◌∙◌, arith, length-append}
use Rattle.std.proofs.lemmas.Bool.{lt-ltb, le-ltb}
use Rattle.refusals.specs.Outcomes.{refused, taken}
use Rattle.refusals.proofs.Settles.{settle_taken, settle_refused}
use Rattle.text.specs.Positions.{IsText, text_checks, check_rule}
use Rattle.languages.specs.declared.token.Token.{Token}
use Rattle.languages.specs.Tokens.{LanguageLaws, Step, Next, followed, up_to, rest, tokens, within, end, count_rule}

-- no more tokens than steps, and so no more than bytes
up_to_few : (fuel : ℕ) (next : Next) (text : List ℕ) (from : ℕ) → length (up_to fuel next text from) ≤ fuel
up_to_few zero next text from = omega arith
up_to_few (suc fuel) next text from = elim (next text from) as (λ v. length (followed v (λ t. up_to fuel next text (end t))) ≤ suc fuel) [
  | None ↦ omega arith
  | Some t ↦ let h = up_to_few fuel next text (end t) in omega arith
]

pub few_tokens : (next : Next) (text : List ℕ) → length (tokens next text) ≤ length text
unfolding tokens
few_tokens next text = let h = up_to_few (length text - 0) next text 0 in omega arith

-- a token that the answer from a place may be: it starts there or later, has a byte, and lies in the text
pub record Goes (text : List ℕ) (from : ℕ) (t : Token) : Type 0 where
  pub start : from ≤ t.place.0
  pub some : 1 ≤ t.length
  pub inside : end t ≤ length text

abbrev pub GoesOn : Next → List ℕ → Type 0
GoesOn next text = (from : ℕ) (t : Token) → next text from ≡ Some t → Goes text from t

module _ (next : Next) (text : List ℕ) (goes : GoesOn next text) where
  -- past the last byte there is no token
  pub none_left : (fuel from : ℕ) → length text ≤ from → up_to fuel next text from ≡ []
  none_left zero from h = refl
  none_left (suc fuel) from h =
      (elim (next text from) as (λ v. next text from ≡ v → followed v (λ t. up_to fuel next text (end t)) ≡ []) [
        | None ↦ λ e. refl
        | Some t ↦ λ e. let f = goes from t e in absurd (omega arith)
      ]) refl

  -- more fuel than bytes adds nothing
  enough : (m n from : ℕ) → length text - from ≤ m → length text - from ≤ n → up_to m next text from ≡ up_to n next text from
  enough zero n from hm hn = sym (none_left n from (omega arith))
  enough (suc m) zero from hm hn = none_left (suc m) from (omega arith)
  enough (suc m) (suc n) from hm hn =
      (elim (next text from) as (λ v. next text from ≡ v → followed v (λ t. up_to m next text (end t)) ≡ followed v (λ t. up_to n next text (end t))) [
        | None ↦ λ e. refl
        | Some t ↦ λ e. let f = goes from t e in ap (λ ts. t ∷ ts) (enough m n (end t) (omega arith) (omega arith))
      ]) refl

  -- one answer, then the rest from the token's end
  pub rest_step : (from : ℕ) → rest next text from ≡ followed (next text from) (λ t. rest next text (end t))
  rest_step from =
      enough (length text - from) (suc (length text)) from (omega arith) (omega arith) ∙
      (elim (next text from) as (λ v. next text from ≡ v → followed v (λ t. up_to (length text) next text (end t)) ≡ followed v (λ t. rest next text (end t))) [
        | None ↦ λ e. refl
        | Some t ↦ λ e. ap (λ ts. t ∷ ts) (enough (length text) (length text - end t) (end t) (omega arith) (omega arith))
      ]) refl

  -- tokens from a place on start there or later
  none_within : (n fuel from : ℕ) → n ≤ from → within n (up_to fuel next text from) ≡ []
  none_within n zero from h = refl
  none_within n (suc fuel) from h =
      (elim (next text from) as (λ v. next text from ≡ v → within n (followed v (λ t. up_to fuel next text (end t))) ≡ []) [
        | None ↦ λ e. refl
        | Some t ↦ λ e. let f = goes from t e in
            let late : n ≤ t.place.0 = omega arith in
            rw (le-ltb t.place.0 n late) (none_within n fuel (end t) (omega arith))
      ]) refl

-- a caller who asks a language that keeps the laws about a text
module _ {next : Next} {kinds : ℕ} (lawful : LanguageLaws next kinds) (text : List ℕ) (is : IsText text) where
  goes_on : GoesOn next text
  goes_on from t e = let f = lawful.fits text is from t e in record { start = f.start; some = f.some; inside = f.inside }

  pub rest_some : (from : ℕ) (t : Token) → next text from ≡ Some t → rest next text from ≡ t ∷ rest next text (end t)
  rest_some from t e = rest_step next text goes_on from ∙ ap (λ (o : Option Token). followed o (λ u. rest next text (end u))) e

  pub rest_none : (from : ℕ) → next text from ≡ None → rest next text from ≡ []
  rest_none from e = rest_step next text goes_on from ∙ ap (λ (o : Option Token). followed o (λ u. rest next text (end u))) e

  pub asked : (from : ℕ) (o : Option Token) → o ≡ next text from → MatchOption o (rest next text from ≡ []) (Step next kinds text from)
  asked from None e = rest_none from (sym e)
  asked from (Some t) e = record { fits = lawful.fits text is from t (sym e); first = rest_some from t (sym e) }

  -- the first of the tokens that are left, and the others
  pub first_left : (from : ℕ) (t : Token) (ts : List Token) → rest next text from ≡ t ∷ ts → Step next kinds text from t × (rest next text (end t) ≡ ts)
  first_left from t ts e =
      (elim (next text from) as (λ v. next text from ≡ v → Step next kinds text from t × (rest next text (end t) ≡ ts)) [
        | None ↦ λ n. let none = rest_none from n in absurd (cc)
        | Some u ↦ λ n.
            let s = rest_some from u n in
            let f : next text from ≡ Some t = cc in
            let r = rest_some from t f in
            (record { fits = lawful.fits text is from t f; first = r }, cc)
      ]) refl

-- an answer that is none, or starts at n or later
abbrev pub Past : ℕ → Option Token → Type 0
Past n None = Unit {0}
Past n (Some t) = n ≤ t.place.0

-- what an answer may become when more text follows the first n bytes
abbrev pub Cut : ℕ → Option Token → Option Token → Type 0
Cut n None o = Past n o
Cut n (Some t) o = o ≡ Some t

-- a text p, and what follows it and changes no answer in it
module _ (next : Next) (p x : List ℕ) (here : GoesOn next p) (there : GoesOn next (p ++ x)) (cut : (from : ℕ) → from ≤ length p → Cut (length p) (next p from) (next (p ++ x) from)) where
  -- an answer past the text adds nothing within it
  past_none : (fuel : ℕ) (o : Option Token) → Past (length p) o → within (length p) (followed o (λ t. up_to fuel next (p ++ x) (end t))) ≡ []
  past_none fuel None h = refl
  past_none fuel (Some t) h = rw (le-ltb t.place.0 (length p) h) (none_within next (p ++ x) there (length p) fuel (end t) (omega arith))

  cut_from : (m k from : ℕ) → from ≤ length p → length p - from ≤ m → length p - from ≤ k → within (length p) (up_to m next (p ++ x) from) ≡ up_to k next p from
  cut_from zero k from h hm hk = sym (none_left next p here k from (omega arith))
  cut_from (suc m) zero from h hm hk = none_within next (p ++ x) there (length p) (suc m) from (omega arith)
  cut_from (suc m) (suc k) from h hm hk =
      (elim (next p from) as (λ v. next p from ≡ v → Cut (length p) v (next (p ++ x) from) → within (length p) (followed (next (p ++ x) from) (λ t. up_to m next (p ++ x) (end t))) ≡ followed v (λ t. up_to k next p (end t))) [
        | None ↦ λ e c. past_none m (next (p ++ x) from) c
        | Some t ↦ λ e c. let f = here from t e in
            let early : t.place.0 < length p = omega arith in
            rw (c, lt-ltb t.place.0 (length p) early) (ap (λ ts. t ∷ ts) (cut_from m k (end t) f.inside (omega arith) (omega arith)))
      ]) refl (cut from h)

  -- the tokens that start in the text are its own
  pub cut_tokens : within (length p) (tokens next (p ++ x)) ≡ tokens next p
  unfolding tokens
  cut_tokens = cut_from (length (p ++ x) - 0) (length p - 0) 0 (omega arith) (simp length-append (omega arith)) (omega arith)

-- what a count says of the bytes that were counted

pub uncounted : (next : Next) (t : List ℕ) (k : ℕ) → refused k tt ≡ count_rule next t → refused k tt ≡ check_rule t
uncounted next t k e = sym (settle_refused (tt {0}) (length (tokens next t)) (tt {0}) (tt {0}) (text_checks t) k tt (sym e)).1

module _ (next : Next) (t : List ℕ) (n : ℕ) (e : taken n ≡ count_rule next t) where
  pub counted : n ≡ length (tokens next t)
  counted = (settle_taken (tt {0}) (length (tokens next t)) (tt {0}) (tt {0}) (text_checks t) n (sym e)).0

  pub counted_text : taken tt ≡ check_rule t
  counted_text = sym (settle_taken (tt {0}) (length (tokens next t)) (tt {0}) (tt {0}) (text_checks t) n (sym e)).1
