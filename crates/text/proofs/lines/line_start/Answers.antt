use Rattle.std.proofs.Common.{◌≡◌, ℕ, ◌+◌, ◌-◌, cond, drop, sym, ap, ◌∙◌, arith}
use Rattle.text.specs.Lines.{ahead, start_of, place_in}
use Rattle.text.proofs.Counting.{ends_here, start_more, line_end}
use Rattle.text.proofs.lines.line_start.Goals as goal
use Rattle.text.proofs.lines.line_start.Goals.{then-ends_line, else-ends_line}

pub loop-at-preserved : goal.loop-at-preserved
loop-at-preserved c =
    let t = c.args.text.now in
    let n = c.loop-at.left in
    let at = c.loop-at.at in
    let left : c.if-ends_line.left ≡ cond c.ends_line.result (n - 1) n =
    elim c.if-ends_line.branch [
      | then-ends_line w ↦ grind (arith, w.left-is, w.if-ends_line.true)
      | else-ends_line w ↦ grind (arith, w.left-is, w.if-ends_line.false)
    ] in
    ap (λ (m : ℕ). ahead (at + 1) (start_of (drop (at + 1) t) m)) (left ∙ ap (λ b. cond b (n - 1) n) (c.ends_line.ensures ∙ ends_here t at (omega arith)))
    ∙ sym (start_more t at n (omega arith) (omega arith)) ∙ c.loop-at.invariant

pub returns-clause-start : goal.returns-clause-start
returns-clause-start c =
    let t = c.args.text.now in
    ap place_in c.then_some.ensures ∙ line_end t c.loop-at.at c.loop-at.left (omega arith) ∙ c.loop-at.invariant
