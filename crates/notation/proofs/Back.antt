-- What is written as TEXT is read as the same bytes. Assumes nothing.
use Rattle.std.proofs.Common.{◌≡◌, ℕ, ◌+◌, ◌*◌, ◌/◌, ◌%◌, ◌<◌, true, List, [], ◌∷◌, ◌++◌, Some, get_or, w8, Fits, refl, ap, ◌∙◌, append_assoc, arith}
use Rattle.std.specs.List.{flat_map, AllByRecursion}
use Rattle.std.proofs.lemmas.Bool.Decides.{nat_tests}
use Rattle.std.proofs.ByRecursion.{All-from_get_or}
use Rattle.notation.specs.Texts.{hex_value, stands, ahead, body_of, text_of, hex_digit, hex_spelled, spelled, written}

hex_back : (n : ℕ) → n < 16 → hex_value (hex_digit n) ≡ Some n
hex_back n h = grind (arith, nat_tests)

by_digits : (b : ℕ) (rest : List ℕ) → b < 256 → body_of 0 (hex_spelled b ++ rest) ≡ ahead b (body_of 0 rest)
by_digits b rest h =
    let high = hex_back (b / 16) (omega arith) in
    let low = hex_back (b % 16) (omega arith) in
    let whole : b / 16 * 16 + b % 16 ≡ b = omega arith in
    rw (high, low) (ap (λ n. ahead n (body_of 0 rest)) whole)

by_itself : (b : ℕ) (rest : List ℕ) → stands b ≡ true → body_of 0 (b ∷ rest) ≡ ahead b (body_of 0 rest)
by_itself b rest h = grind (arith, nat_tests)

one_back : (b : ℕ) (rest : List ℕ) → b < 256 → body_of 0 (spelled b ++ rest) ≡ ahead b (body_of 0 rest)
one_back b rest h =
    let digits = by_digits b rest h in
    let itself = by_itself b rest in
    grind (arith, nat_tests)

body_back : (bs rest : List ℕ) → AllByRecursion (λ b. b < 256) bs → body_of 0 (flat_map spelled bs ++ (34 ∷ []) ++ rest) ≡ Some (bs, rest)
body_back [] rest h = refl
body_back (b ∷ bs) rest (small, all) =
    let apart : flat_map spelled (b ∷ bs) ++ (34 ∷ []) ++ rest ≡ spelled b ++ (flat_map spelled bs ++ (34 ∷ []) ++ rest) = simp append_assoc in
    ap (body_of 0) apart ∙ one_back b (flat_map spelled bs ++ (34 ∷ []) ++ rest) small ∙ ap (ahead b) (body_back bs rest all)

pub read_back : (bs rest : List ℕ) → AllByRecursion (λ b. b < 256) bs → text_of (written bs ++ rest) ≡ Some (bs, rest)
unfolding text_of written
read_back bs rest h = body_back bs rest h

pub back : (bs : List ℕ) → ((i : ℕ) → Fits w8 (get_or bs i 0)) → (rest : List ℕ) → text_of (written bs ++ rest) ≡ Some (bs, rest)
back bs fit rest = read_back bs rest (All-from_get_or (λ b. b < 256) bs 0 (λ i _. omega (arith, fit i)))
