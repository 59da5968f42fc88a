use Rattle.std.proofs.Common.{◌≡◌, ◌+◌, ◌-◌, ◌*◌, [], length, get_or, drop, sym, ap, ◌∙◌, arith}
use Rattle.std.proofs.lemmas.List.{take_rest}
use Rattle.std.proofs.lemmas.Bool.Decides.{nat_tests}
use Rattle.notation.specs.Numbers.{digits, worth, number_of}
use Rattle.notation.proofs.Steps.{digits_more, digits_stop, digits_end, worth_grows}
use Rattle.notation.proofs.number.read_number.Goals as goal
use Rattle.notation.proofs.number.read_number.Goals.{After-then_some, else-loop-b-test, then-loop-b-test+then-not-is_ascii_digit}

pub returns-then-value-from : goal.returns-then-value-from
unfolding number_of
returns-then-value-from c =
    let more = digits_more c.args.from.now c.loop-b.b-index c.loop-b-test.true (sym (c.if-not-is_ascii_digit.ensures.value)) in
    let large = worth_grows (c.loop-b.value * 10 + (get_or c.args.from.now c.loop-b.b-index 0 - 48)) (digits (drop (c.loop-b.b-index + 1) c.args.from.now)) in
    let same = sym (ap (worth c.loop-b.value) more) ∙ c.loop-b.invariant.2 in
    grind (arith, nat_tests)

-- no digit is left
ended : (c : After-then_some) → digits (drop c.loop-b.b-index c.args.from.now) ≡ []
ended c =
    elim c.loop-b-test.branch [
      | else-loop-b-test w ↦ digits_end c.args.from.now c.loop-b.b-index w.loop-b-test.false
      | then-loop-b-test+then-not-is_ascii_digit w ↦ digits_stop c.args.from.now c.loop-b.b-index w.loop-b-test.true (sym w.if-not-is_ascii_digit.ensures.value)
    ]

pub returns : goal.returns
unfolding number_of
returns c =
    let none = ended c in
    let size : length (digits c.args.from.now) ≡ c.loop-b.b-index = omega (arith, ap length none) in
    let all = sym (ap (worth c.loop-b.value) none) ∙ c.loop-b.invariant.2 in
    let rest = take_rest c.args.from.now c.loop-b.b-index in
    let behind = ap (λ n. drop n c.args.from.now) size in
    grind (arith, nat_tests)
