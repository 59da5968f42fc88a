use Rattle.std.proofs.Common.{arith}
use Rattle.std.proofs.lemmas.Bool.{iff_false}
use Rattle.utf8.proofs.Firsts.{from_checked}
use Rattle.utf8.proofs.Chars.{no_char, begins_three}
use Rattle.utf8.proofs.three.Goals as goal

pub returns-in_default : goal.returns-in_default
returns-in_default c = no_char c.args.bytes.now (λ r. let t = r.third (omega arith) in omega arith)

pub returns-then-not-is_second : goal.returns-then-not-is_second
returns-then-not-is_second c = no_char c.args.bytes.now (λ r.
    elim c.then-not-is_second.branch [
      | goal.then-not-is_second-via-then-not-is_second w ↦ iff_false c.is_second.ensures w.if-not-is_second.true (r.second (omega arith)).1
      | goal.then-not-is_second-via-else-not-is_second+then-not-is_tail w ↦ iff_false w.is_tail.ensures w.if-not-is_tail.true (r.third (omega arith)).1
    ])

pub returns : goal.returns
returns c = from_checked _ _ c.from_u32.result (begins_three c.args.bytes.now (omega arith) (omega arith) (omega arith) (c.is_second.ensures.0 c.if-not-is_second.false) (c.is_tail.ensures.0 c.if-not-is_tail.false)) c.from_u32.ensures.value
