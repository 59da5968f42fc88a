-- Texts by their first character. Assumes nothing.
use Rattle.std.proofs.Common.{ℕ, ◌<◌, ◌≤◌, List, [], ◌∷◌, length, drop, IsUtf8, sym, ap, subst, arith}
use lib.Utf8.{encode, encodes}
use Rattle.std.specs.Char.{len_utf8}
use Rattle.std.proofs.lemmas.Str.{IsUtf8-append, IsUtf8-encode, IsUtf8-past_char, IsUtf8-nil}
use Rattle.std.proofs.lemmas.Bool.{and_parts}
use Rattle.std.proofs.lemmas.List.{drop_all}
use Rattle.utf8.specs.Characters.{NoChar, Begins}

pub not_text : (bs : List ℕ) → 0 < length bs → NoChar bs → IsUtf8 bs → ⊥
not_text bs h n (([]), (s, e)) = omega (arith, ap length e)
not_text bs h n ((c ∷ cs), (s, e)) = n c (encodes cs) (and_parts _ _ s).0 (sym e)

module _ (bs : List ℕ) (c : ℕ) (b : Begins bs c) where
  pub text_past : IsUtf8 bs → IsUtf8 (drop (len_utf8 c) bs)
  text_past u = IsUtf8-past_char bs (drop (len_utf8 c) bs) c u b.splits

  pub text_back : IsUtf8 (drop (len_utf8 c) bs) → IsUtf8 bs
  text_back u = subst IsUtf8 (sym b.splits) (IsUtf8-append (encode c) _ (IsUtf8-encode c b.is_scalar) u)

pub text_end : (bs : List ℕ) (at : ℕ) → length bs ≤ at → IsUtf8 (drop at bs)
text_end bs at h = subst IsUtf8 (sym (drop_all at bs h)) IsUtf8-nil
