-- The syntax of UTF-8 as RFC 3629 gives it, byte by byte, and the test for it. Assumes nothing.
use Rattle.std.specs.Prelude.{ℕ, ◌<◌, ◌≤◌, Bool, ◌&&◌, List, [], ◌∷◌, IsUtf8, Decides}
use Rattle.std.proofs.Math.Utf8.{scalars, encodes}
use Rattle.std.specs.Str.{chars, bytes_eq}
use Rattle.utf8.specs.Characters.{Second}

abbrev pub Tail : ℕ → Type 0
Tail b = (128 ≤ b) × (b < 192)

-- RFC 3629, section 4: a text is a row of characters of one to four octets
pub data Octets : List ℕ → Type 0 where
  none : Octets []
  one : (a : ℕ) (r : List ℕ) → a < 128 → Octets r → Octets (a ∷ r)
  two : (a b : ℕ) (r : List ℕ) → a < 224 → Second a b → Octets r → Octets (a ∷ b ∷ r)
  three : (a b c : ℕ) (r : List ℕ) → 224 ≤ a → a < 240 → Second a b → Tail c → Octets r → Octets (a ∷ b ∷ c ∷ r)
  four : (a b c d : ℕ) (r : List ℕ) → 240 ≤ a → Second a b → Tail c → Tail d → Octets r → Octets (a ∷ b ∷ c ∷ d ∷ r)

-- the test: decoded and encoded again the bytes are the same, and each character is a scalar value
unfoldable pub well_formed : List ℕ → Bool
well_formed bs = scalars (chars bs) && bytes_eq (encodes (chars bs)) bs

-- the byte table of RFC 3629 and the library's `IsUtf8` say the same
abbrev pub TableIsUtf8 : Type 0
TableIsUtf8 = (bs : List ℕ) → (Octets bs → IsUtf8 bs) × (IsUtf8 bs → Octets bs)

-- the test decides it
abbrev pub TestDecidesUtf8 : Type 0
TestDecidesUtf8 = (bs : List ℕ) → Decides (well_formed bs) (IsUtf8 bs)
