use Rattle.std.proofs.Common.{◌≡◌, ℕ, ◌-◌, ◌≤◌, min, List, length, take, drop, ap, ◌∙◌, arith, length-take, length-drop}
use Rattle.std.specs.Char.{is_ascii_digit}
use Rattle.std.specs.Str.Parse.{digits_value}
use Rattle.std.proofs.lemmas.List.{take_min, drop_min, take-take}
use Rattle.std.proofs.lemmas.List.Sums.{prefix_len-le-length}
use Rattle.std.specs.List.{prefix_len}
use Rattle.wire.specs.Headers.{digits_of}
use Rattle.wire.proofs.Announcing.{leading}
use Rattle.wire.proofs.header.announced_size.Goals as goal

-- the five bytes behind the label, as far as there are so many, and the digits that they begin with
digits : (bs : List ℕ) (from end : ℕ) → end ≡ min (length bs) 21 → from ≡ min end 16 → leading (take (end - from) (drop from bs)) ≡ digits_of 5 (drop 16 bs)
digits bs from end e f =
    let r = drop 16 bs in
    let size : end - from ≡ min 5 (length r) = omega (arith, length-drop 16 bs) in
    let start : from ≡ min 16 (length bs) = omega arith in
    let some : prefix_len is_ascii_digit (take 5 r) ≤ 5 = omega (arith, prefix_len-le-length is_ascii_digit (take 5 r), length-take 5 r) in
    ap (λ n. leading (take n (drop from bs))) size ∙ ap (λ n. leading (take (min 5 (length r)) (drop n bs))) start
    ∙ ap (λ s. leading (take (min 5 (length r)) s)) (drop_min 16 bs) ∙ ap leading (take_min 5 r) ∙ take-take _ 5 r some

pub returns : goal.returns
returns c = c.leading_number.ensures ∙ ap (digits_value 10) (digits c.args.frame.now c.min.result c.min-end.result c.min-end.ensures c.min.ensures)
