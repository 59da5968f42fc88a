use Rattle.std.proofs.Common.{◌≡◌, ℕ, suc, ◌+◌, ◌*◌, ◌^◌, get_or, drop, sym, ap, ◌∙◌, arith}
use native.Mathlib.Nat.{pow-succ'}
use Rattle.std.specs.Str.Parse.{digits_value_after}
use Rattle.wire.proofs.Announcing.{leading, leading_more, digit_value, digit_low}
use Rattle.wire.proofs.header.leading_number.Goals as goal

pub loop-b-preserved : goal.loop-b-preserved
loop-b-preserved c =
    let bs = c.args.bytes.now in
    let i = c.loop-b.b-index in
    let n = c.loop-b.number in
    let b = get_or bs i 0 in
    let digit = sym c.if-not-is_ascii_digit.ensures.value in
    let step = ap (digits_value_after 10 n) (leading_more bs i (omega arith) digit) in
    let value = digit_value b digit in
    let power : 10 ^ (i + 1) ≡ 10 * 10 ^ i = let e : i + 1 ≡ suc i = omega arith in ap (λ (m : ℕ). 10 ^ m) e ∙ pow-succ' 10 i in
    (ap (λ (m : ℕ). digits_value_after 10 (n * 10 + m) (leading (drop (i + 1) bs))) (sym value) ∙ sym step ∙ c.loop-b.invariant.0, omega (arith, power, digit_low b digit))
