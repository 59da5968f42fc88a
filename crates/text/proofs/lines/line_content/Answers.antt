use Rattle.std.proofs.Common.{length, Some, ap, ◌∙◌, arith}
use Rattle.std.proofs.lemmas.Slice.{between_to_end}
use Rattle.text.specs.Lines.{content_from}
use Rattle.text.proofs.Counting.{content_cut}
use Rattle.text.proofs.lines.line_content.Goals as goal

pub returns : goal.returns
returns c =
    let t = c.args.text.now in
    let n = c.in_ok-start.field-0.0 in
    ap Some (content_cut t _ n c.unwrap_or.result c.first_line_end.result (between_to_end t n (length t) (omega arith)) c.first_line_end.ensures c.unwrap_or.ensures)
    ∙ ap (content_from t) c.in_ok-start.ensures.start
