-- Decoding, five numbers at a time. Assumes nothing.
use Rattle.std.proofs.Common.{◌≡◌, ℕ, ◌+◌, ◌-◌, ◌≤◌, cond, eqb, List, [], ◌∷◌, length, get_or, take, drop, refl, arith}
use Rattle.std.proofs.Math.Seq.{take-length}
use Rattle.coding.specs.Coding.{decode}

pub decode_five : (l c : ℕ) (xs : List ℕ) → 5 ≤ length xs
    → decode l c xs
    ≡ record {
      line = l + get_or xs 0 0;
      column = cond (eqb (get_or xs 0 0) 0) (c + get_or xs 1 0) (get_or xs 1 0);
      units = get_or xs 2 0;
      kind = get_or xs 3 0;
      modifiers = get_or xs 4 0;
    } ∷ decode (l + get_or xs 0 0) (cond (eqb (get_or xs 0 0) 0) (c + get_or xs 1 0) (get_or xs 1 0)) (take (length xs - 5) (drop 5 xs))
decode_five l c [] h = absurd (omega arith)
decode_five l c (a ∷ []) h = absurd (omega arith)
decode_five l c (a ∷ b ∷ []) h = absurd (omega arith)
decode_five l c (a ∷ b ∷ n ∷ []) h = absurd (omega arith)
decode_five l c (a ∷ b ∷ n ∷ k ∷ []) h = absurd (omega arith)
decode_five l c (a ∷ b ∷ n ∷ k ∷ m ∷ xs) h = let e : length (a ∷ b ∷ n ∷ k ∷ m ∷ xs) - 5 ≡ length xs = omega arith in rw (e, take-length) refl
