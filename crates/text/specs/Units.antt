-- Position encodings: how many units each scalar value counts. Assumes nothing.
use Rattle.std.specs.Prelude.{◌≡◌, ℕ, ◌≤◌, true, cond, nat_lt}
use Rattle.std.proofs.Math.Utf8.{scalar}
use Rattle.std.specs.Char.{len_utf8}
use Rattle.std.proofs.Common.{rules}

-- what an encoding shows: every scalar value counts at least 1 unit and at most its stated largest, which is at most 4
pub record Counts (units : ℕ → ℕ) (largest : ℕ) : Type 0 where
  pub low : (c : ℕ) → scalar c ≡ true → 1 ≤ units c
  pub high : (c : ℕ) → scalar c ≡ true → units c ≤ largest
  pub few : largest ≤ 4

-- UTF-8 counts bytes
abbrev pub utf8_units : ℕ → ℕ
utf8_units c = len_utf8 c

-- UTF-16 counts 2 from U+10000 up, else 1
abbrev pub utf16_units : ℕ → ℕ
utf16_units c = cond (nat_lt c 0x10000) 1 2

-- UTF-32 counts characters
abbrev pub utf32_units : ℕ → ℕ
utf32_units c = 1

pub utf8_counts : Counts utf8_units 4
utf8_counts = search rules

pub utf16_counts : Counts utf16_units 2
utf16_counts = search rules

pub utf32_counts : Counts utf32_units 1
utf32_counts = search rules
