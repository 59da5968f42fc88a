-- The character that begins a list of bytes, by its definition and by what it means. Assumes nothing.
use Rattle.std.proofs.Common.{◌≡◌, ℕ, ◌≤◌, true, ◌&&◌, eqb, List, [], ◌∷◌, ◌++◌, length, drop, Some, None, Option, sym, refl, ap, ◌∙◌, subst, ⊎_elim, arith, length-drop}
use lib.Utf8.{scalar, encode}
use Rattle.std.specs.Str.{chars}
use Rattle.std.specs.Option.{SomeIff}
use Rattle.std.proofs.lemmas.List.{append-nil}
use Rattle.std.proofs.lemmas.Str.{encode_same, IsUtf8-encode, chars-append, chars-encodes}
use Rattle.std.proofs.lemmas.Bool.{and_parts, and_from, eqb-true, eq-eqb, cases_Bool, cond-true, cond-false, both_ways, false≢true}
use Rattle.utf8.specs.Characters.{begins_with, heads, first_char, Begins, First, FirstCharStands}
use Rattle.utf8.proofs.Chars.{begins_from, none_begins}

-- a list that begins with another is it and a rest
prefix : (xs bs : List ℕ) → begins_with xs bs ≡ true → (r : List ℕ) × (bs ≡ xs ++ r)
prefix [] bs e = (bs, refl)
prefix (x ∷ xs) [] e = absurd (false≢true e)
prefix (x ∷ xs) (b ∷ bs) e =
    let p = and_parts (eqb x b) (begins_with xs bs) e in
    let r = prefix xs bs p.1 in
    let same : b ≡ x = sym (eqb-true x b p.0) in
    (r.0, λ k. same k ∷ r.1 k)

begins_append : (xs r : List ℕ) → begins_with xs (xs ++ r) ≡ true
begins_append [] r = refl
begins_append (x ∷ xs) r = and_from _ _ (eq-eqb x x refl) (begins_append xs r)

decodes_front : (bs rest : List ℕ) (c : ℕ) → scalar c ≡ true → bs ≡ encode c ++ rest → chars bs ≡ c ∷ chars rest
decodes_front bs rest c s e =
    let one : chars (encode c) ≡ c ∷ [] = ap chars (sym (append-nil (encode c))) ∙ chars-encodes (c ∷ []) (and_from _ _ s refl) in
    ap chars e ∙ chars-append (encode c) rest (IsUtf8-encode c s) ∙ ap (λ t. t ++ chars rest) one

heads_stands : (ds bs : List ℕ) → chars bs ≡ ds → First bs (heads ds bs)
heads_stands [] bs d = λ c rest s e. let f = decodes_front bs rest c s e in let z : ◌≡◌ {A = ℕ} 0 1 = cc in omega arith
heads_stands (d ∷ ds) bs q =
    ⊎_elim
    (λ y.
    let p = and_parts _ _ y in
    let r = prefix (encode d) bs p.1 in
    subst (First bs) (sym (cond-true _ (Some d) None y)) (begins_from bs r.0 d p.0 r.1))
    (λ y. subst (First bs) (sym (cond-false _ (Some d) None y)) (λ c rest s e.
    let f = decodes_front bs rest c s e in
    let same : d ≡ c = cc in
    both_ways _ y (rw (same, e) (and_from _ _ s (begins_append (encode c) rest)))))
    (cases_Bool (scalar d && begins_with (encode d) bs))

pub first_char_stands : FirstCharStands
unfolding first_char
first_char_stands bs = heads_stands (chars bs) bs refl

-- a list begins with one character at most
pub first_same : (bs : List ℕ) (r q : Option ℕ) → First bs r → First bs q → r ≡ q
first_same bs None None f g = refl
first_same bs None (Some d) f g = absurd (f d _ g.is_scalar g.splits)
first_same bs (Some c) None f g = absurd (g c _ f.is_scalar f.splits)
first_same bs (Some c) (Some d) f g = ap Some (encode_same c d _ _ (sym f.splits ∙ g.splits)).0

pub first_is : (bs : List ℕ) (r : Option ℕ) → First bs r → r ≡ first_char bs
first_is bs r f = first_same bs r (first_char bs) f (first_char_stands bs)

-- a character made from its number
pub from_checked : (bs : List ℕ) (v : ℕ) (r : Option ℕ) → Begins bs v → SomeIff r (scalar v ≡ true) v → First bs r
from_checked bs v None b k = absurd (k b.is_scalar)
from_checked bs v (Some c) b k = subst (Begins bs) (sym k.1) b

-- past the end none begins
pub first_none : (bs : List ℕ) (at : ℕ) → length bs ≤ at → None ≡ first_char (drop at bs)
first_none bs at l = first_is (drop at bs) None (none_begins (drop at bs) (omega (arith, length-drop at bs)))
