-- The grammar, and the test, say the same as `IsUtf8`. Assumes nothing.
use Rattle.std.proofs.Common.{◌≡◌, ℕ, ◌+◌, ◌-◌, ◌*◌, ◌/◌, ◌<◌, ◌≤◌, true, ◌⊎◌, List, [], ◌∷◌, ◌++◌, drop, IsUtf8, sym, refl, subst, inl, inr, ⊎_elim, arith}
use lib.Utf8.{scalar, scalars, encode, encodes, next, scalar_cases}
use Rattle.std.specs.Char.{len_utf8}
use Rattle.std.specs.Str.{chars, bytes_eq}
use Rattle.std.proofs.lemmas.Str.{IsUtf8-append, IsUtf8-encode, IsUtf8-nil, encodes-chars, scalars-chars}
use Rattle.std.proofs.lemmas.Bool.{and_parts, and_from, cases_lt, cases_eq}
use Rattle.std.proofs.lemmas.Bool.Decides.{nat_tests}
use Rattle.std.proofs.lemmas.Slice.Eq.{bytes_eq-Decides}
use Rattle.utf8.specs.Characters.{Begins}
use Rattle.utf8.specs.Grammar.{Octets, none, one, two, three, four, well_formed, TableIsUtf8, TestDecidesUtf8}
use Rattle.utf8.proofs.Chars.{begins_one, begins_two, begins_three, begins_four, RangedAt, ranged, enc_one, enc_two, enc_three, enc_four}

same_from : (xs ys : List ℕ) → bytes_eq xs ys ≡ true → xs ≡ ys
same_from xs ys = (bytes_eq-Decides xs ys).0

same_self : (xs : List ℕ) → bytes_eq xs xs ≡ true
same_self xs = (bytes_eq-Decides xs xs).1 refl

pub test_decides_utf8 : TestDecidesUtf8
unfolding well_formed
test_decides_utf8 bs = (
  λ e. let p = and_parts _ _ e in (chars bs, (p.0, same_from _ _ p.1)),
  λ u. and_from _ _ (scalars-chars bs u) (subst (λ x. bytes_eq x bs ≡ true) (sym (encodes-chars bs u)) (same_self bs)),
)

two_wide : (c : ℕ) → 128 ≤ c → c < 2048 → len_utf8 c ≡ 2
two_wide c l h = grind (arith, nat_tests)

three_wide : (c : ℕ) → 2048 ≤ c → c < 65536 → len_utf8 c ≡ 3
three_wide c l h = grind (arith, nat_tests)

four_wide : (c : ℕ) → 65536 ≤ c → len_utf8 c ≡ 4
four_wide c l = grind (arith, nat_tests)

-- a character, and the text after it
after : (bs : List ℕ) (c n : ℕ) → Begins bs c → len_utf8 c ≡ n → IsUtf8 (drop n bs) → IsUtf8 bs
after bs c n b w u = subst IsUtf8 (sym b.splits) (IsUtf8-append (encode c) _ (IsUtf8-encode c b.is_scalar) (subst (λ m. IsUtf8 (drop m bs)) (sym w) u))

text_from : {bs : List ℕ} → Octets bs → IsUtf8 bs
text_from none = IsUtf8-nil
text_from (one a r h o) = after (a ∷ r) a 1 (begins_one (a ∷ r) (omega arith) h) (grind (arith, nat_tests)) (text_from o)
text_from (two a b r h s o) =
    let c : ℕ = (a - 192) * 64 + (b - 128) in
    let l : 128 ≤ c = omega (arith, s.least) in
    let u : c < 2048 = omega (arith, s.high) in
    after (a ∷ b ∷ r) c 2 (begins_two (a ∷ b ∷ r) (omega arith) h s) (two_wide c l u) (text_from o)
text_from (three a b d r l h s t o) =
    let c : ℕ = (a - 224) * 4096 + (b - 128) * 64 + (d - 128) in
    let lo : 2048 ≤ c = ⊎_elim (λ e. omega (arith, s.e0 e)) (λ e. omega arith) (cases_eq a 224) in
    let u : c < 65536 = omega (arith, s.high) in
    after (a ∷ b ∷ d ∷ r) c 3 (begins_three (a ∷ b ∷ d ∷ r) (omega arith) l h s t) (three_wide c lo u) (text_from o)
text_from (four a b d e r l s t v o) =
    let c : ℕ = ((a - 240) * 64 + (b - 128)) * 4096 + (d - 128) * 64 + (e - 128) in
    let lo : 65536 ≤ c = ⊎_elim (λ q. omega (arith, s.f0 q)) (λ q. omega arith) (cases_eq a 240) in
    after (a ∷ b ∷ d ∷ e ∷ r) c 4 (begins_four (a ∷ b ∷ d ∷ e ∷ r) (omega arith) l s t v) (four_wide c lo) (text_from o)

-- the bytes of a character, with what follows
octets_more : (c : ℕ) (r : List ℕ) → scalar c ≡ true → Octets r → Octets (encode c ++ r)
octets_more c r s o = by (cases_lt c 128) (cases_lt c 2048) (cases_lt c 65536)
  where
    top : c < 1114112
    top = ⊎_elim (λ q. omega arith) (λ q. omega arith) (scalar_cases c s)

    by : (c < 128) ⊎ (128 ≤ c) → (c < 2048) ⊎ (2048 ≤ c) → (c < 65536) ⊎ (65536 ≤ c) → Octets (encode c ++ r)
    by (inl h) _ _ = subst (λ p. Octets (p ++ r)) (sym (enc_one c h)) (one c r h o)
    by (inr l) (inl h) _ =
        let e = enc_two c l h in
        let g : RangedAt ((192 + c / 64) ∷ next c ∷ r) = subst (λ p. RangedAt (p ++ r)) e (ranged c r s) in
        subst (λ p. Octets (p ++ r)) (sym e) (two (192 + c / 64) (next c) r (omega arith) (g.second (omega arith)).1 o)
    by (inr _) (inr l) (inl h) =
        let e = enc_three c l h in
        let g : RangedAt ((224 + c / 4096) ∷ next (c / 64) ∷ next c ∷ r) = subst (λ p. RangedAt (p ++ r)) e (ranged c r s) in
        subst (λ p. Octets (p ++ r)) (sym e) (three (224 + c / 4096) (next (c / 64)) (next c) r (omega arith) (omega arith) (g.second (omega arith)).1 (g.third (omega arith)).1 o)
    by (inr _) (inr _) (inr l) =
        let e = enc_four c l in
        let g : RangedAt ((240 + c / 262144) ∷ next (c / 4096) ∷ next (c / 64) ∷ next c ∷ r) = subst (λ p. RangedAt (p ++ r)) e (ranged c r s) in
        subst (λ p. Octets (p ++ r)) (sym e) (four (240 + c / 262144) (next (c / 4096)) (next (c / 64)) (next c) r (omega arith) (g.second (omega arith)).1 (g.third (omega arith)).1 (g.fourth (omega arith)).1 o)

octets_of : (cs : List ℕ) → scalars cs ≡ true → Octets (encodes cs)
octets_of [] s = none
octets_of (c ∷ cs) s = let p = and_parts _ _ s in octets_more c (encodes cs) p.0 (octets_of cs p.1)

pub table_is_utf8 : TableIsUtf8
table_is_utf8 bs = (text_from, λ u. subst Octets u.1.1 (octets_of u.0 u.1.0))
