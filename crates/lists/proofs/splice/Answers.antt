use Rattle.std.proofs.Common.{◌+◌, ◌-◌, length, sym, ap, ◌∙◌, arith}
use Rattle.lists.specs.Splices.{holds}
use Rattle.lists.proofs.Splicing.{moved, done}
use Rattle.lists.proofs.splice.Goals as goal

pub returns : goal.returns
returns g c =
    let t = c.args.list.now in
    let i = c.args.inserted.now in
    let a = c.args.start in
    let b = c.args.end in
    let n = c.args.length in
    let wrote = c.copy_from_slice.ensures.after in
    simp wrote
    (ap (holds (a + length i + (n - b))) (moved t i c.copy_within.new.self a b n (omega arith) (omega arith) (omega arith) (omega arith) c.copy_within.ensures.after)
    ∙ sym (done t i a b n (omega arith) (omega arith) (omega arith) (omega arith)))
