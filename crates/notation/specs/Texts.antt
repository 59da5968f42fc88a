-- How bytes are written as TEXT: a quote, a spelling of each byte, and a quote. Assumes nothing.
use Rattle.std.specs.Prelude.{ℕ, zero, suc, pred, ◌+◌, ◌-◌, ◌*◌, ◌/◌, ◌%◌, Bool, cond, not, ◌&&◌, ◌||◌, List, [], ◌∷◌, ◌++◌, drop, Some, None, Vec, vec_items, Option, ◌==◌, nat_le, nat_lt}
use Rattle.std.specs.List.{flat_map}
use Rattle.std.specs.Option.{option_map, option_and_then, option_zip}
use Rattle.std.specs.declared.alloc.Global.{Global}
use Rattle.notation.specs.declared.parsed.Parsed.{Parsed}

-- the value of a hexadecimal digit of either case
abbrev pub hex_value : ℕ → Option ℕ
hex_value c =
    cond (nat_le 48 c && nat_le c 57) (Some (c - 48))
    (cond (nat_le 65 c && nat_le c 70) (Some (c - 55)) (cond (nat_le 97 c && nat_le c 102) (Some (c - 87)) None))

-- the byte that a letter behind a backslash stands for: n, r, t, the quote and the backslash
abbrev pub named : ℕ → Option ℕ
named c =
    cond (c == 110) (Some 10)
    (cond (c == 114) (Some 13) (cond (c == 116) (Some 9) (cond (c == 34 || c == 92) (Some c) None)))

-- a byte that may stand for itself: no control byte, no quote and no backslash
abbrev pub stands : ℕ → Bool
stands b = nat_le 32 b && not (b == 34) && not (b == 92) && not (b == 127)

abbrev pub hex_pair : List ℕ → Option (ℕ × ℕ)
hex_pair [] = None
hex_pair (h ∷ []) = None
hex_pair (h ∷ l ∷ bs) = option_map (λ d. (d.0 * 16 + d.1, 4)) (option_zip (hex_value h) (hex_value l))

-- what stands behind a backslash: x and two hexadecimal digits, or a letter
abbrev pub escape : List ℕ → Option (ℕ × ℕ)
escape [] = None
escape (c ∷ bs) = cond (c == 120) (hex_pair bs) (option_map (λ b. (b, 2)) (named c))

-- the byte that the front of a list spells, and how many bytes it takes
abbrev pub spelling_of : List ℕ → Option (ℕ × ℕ)
spelling_of [] = None
spelling_of (b ∷ bs) = cond (b == 92) (escape bs) (cond (stands b) (Some (b, 1)) None)

-- that byte, and what follows its spelling
abbrev pub byte_of : List ℕ → Option (ℕ × List ℕ)
byte_of bs = option_map (λ s. (s.0, drop s.1 bs)) (spelling_of bs)

-- one more byte in front of those that were read
abbrev pub ahead : ℕ → Option (List ℕ × List ℕ) → Option (List ℕ × List ℕ)
ahead b t = option_map (λ p. (b ∷ p.0, p.1)) t

-- the bytes that are spelled up to the closing quote, and what follows it. The first k bytes of the list belong to
-- a spelling that was read
abbrev pub body_of : ℕ → List ℕ → Option (List ℕ × List ℕ)
body_of k [] = None
body_of (suc k) (b ∷ bs) = body_of k bs
body_of zero (b ∷ bs) = cond (b == 34) (Some ([], bs)) (option_and_then (λ s. ahead s.0 (body_of (pred s.1) bs)) (spelling_of (b ∷ bs)))

-- the bytes that the TEXT at the front of a list stands for, and what follows it
unfoldable pub text_of : List ℕ → Option (List ℕ × List ℕ)
text_of [] = None
text_of (b ∷ bs) = cond (b == 34) (body_of 0 bs) None

-- what was read, as lists
abbrev pub meant : Option (Parsed (Vec ℕ Global)) → Option (List ℕ × List ℕ)
meant o = option_map (λ q. (vec_items q.value, q.rest.now)) o

-- the bytes of a TEXT that nothing follows
abbrev pub alone : List ℕ × List ℕ → Option (List ℕ)
alone (bs, []) = Some bs
alone (bs, (b ∷ rest)) = None

abbrev pub last_text : List ℕ → Option (List ℕ)
last_text bs = option_and_then alone (text_of bs)

-- the capital hexadecimal digit of a number below 16
abbrev pub hex_digit : ℕ → ℕ
hex_digit n = cond (nat_lt n 10) (48 + n) (55 + n)

-- a backslash, x and two hexadecimal digits
abbrev pub hex_spelled : ℕ → List ℕ
hex_spelled b = 92 ∷ 120 ∷ hex_digit (b / 16) ∷ hex_digit (b % 16) ∷ []

-- a byte as it is written: by its letter, as itself where it is printable ASCII, or by its digits
abbrev pub spelled : ℕ → List ℕ
spelled b =
    cond (b == 10) (92 ∷ 110 ∷ [])
    (cond (b == 13) (92 ∷ 114 ∷ [])
    (cond (b == 9) (92 ∷ 116 ∷ [])
    (cond (b == 34 || b == 92) (92 ∷ b ∷ []) (cond (nat_le 32 b && nat_le b 126) (b ∷ []) (hex_spelled b)))))

unfoldable pub written : List ℕ → List ℕ
written bs = 34 ∷ (flat_map spelled bs ++ (34 ∷ []))
