use Rattle.std.proofs.Common.{arith}
use Rattle.std.proofs.lemmas.Bool.{iff_false}
use Rattle.utf8.proofs.Firsts.{from_checked}
use Rattle.utf8.proofs.Chars.{no_char, begins_two}
use Rattle.utf8.proofs.two.Goals as goal

pub returns-in_default : goal.returns-in_default
returns-in_default c = no_char c.args.bytes.now (λ r. let s = r.second (omega arith) in omega arith)

pub returns-then-not-is_second : goal.returns-then-not-is_second
returns-then-not-is_second c = no_char c.args.bytes.now (λ r. iff_false c.is_second.ensures c.if-not-is_second.true (r.second (omega arith)).1)

pub returns : goal.returns
returns c = from_checked _ _ c.from_u32.result (begins_two c.args.bytes.now (omega arith) (omega arith) (c.is_second.ensures.0 c.if-not-is_second.false)) c.from_u32.ensures.value
