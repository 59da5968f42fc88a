-- The character that begins a list of bytes: the scalar value whose UTF-8 bytes the list begins with. Assumes nothing.
use Rattle.std.specs.Prelude.{◌≡◌, ℕ, ◌<◌, ◌≤◌, Bool, true, false, cond, ◌&&◌, List, [], ◌∷◌, ◌++◌, length, drop, Some, None, Option, ◌==◌, ◌≢◌}
use Rattle.std.proofs.Math.Utf8.{scalar, encode}
use Rattle.std.specs.Char.{len_utf8}
use Rattle.std.specs.Str.{chars}

-- the second list begins with the first
abbrev pub begins_with : List ℕ → List ℕ → Bool
begins_with [] bs = true
begins_with (x ∷ xs) [] = false
begins_with (x ∷ xs) (b ∷ bs) = x == b && begins_with xs bs

-- c, where it is a scalar value and its bytes begin bs
abbrev pub heads : List ℕ → List ℕ → Option ℕ
heads [] bs = None
heads (c ∷ cs) bs = cond (scalar c && begins_with (encode c) bs) (Some c) None

-- the character that begins bs, none where none does
unfoldable pub first_char : List ℕ → Option ℕ
first_char bs = heads (chars bs) bs

-- no character begins bs
abbrev pub NoChar : List ℕ → Type 0
NoChar bs = (c : ℕ) (rest : List ℕ) → scalar c ≡ true → bs ≢ encode c ++ rest

-- the character c begins bs
pub record Begins (bs : List ℕ) (c : ℕ) : Type 0 where
  pub is_scalar : scalar c ≡ true
  pub fits : len_utf8 c ≤ length bs
  pub splits : bs ≡ encode c ++ drop (len_utf8 c) bs

abbrev pub First : List ℕ → Option ℕ → Type 0
First bs None = NoChar bs
First bs (Some c) = Begins bs c

-- the second byte y may follow the first byte x, by the table of RFC 3629
pub record Second (x y : ℕ) : Type 0 where
  pub least : 194 ≤ x
  pub most : x < 245
  pub low : 128 ≤ y
  pub high : y < 192
  pub e0 : x ≡ 224 → 160 ≤ y
  pub ed : x ≡ 237 → y < 160
  pub f0 : x ≡ 240 → 144 ≤ y
  pub f4 : x ≡ 244 → y < 144

-- `first_char` is what it is called: the one scalar value whose bytes begin the list, none where there is no such value
abbrev pub FirstCharStands : Type 0
FirstCharStands = (bs : List ℕ) → First bs (first_char bs)
