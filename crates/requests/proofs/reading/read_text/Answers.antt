use Rattle.std.proofs.Common.{length, drop, ap, ◌∙◌, arith, length-drop}
use Rattle.std.specs.Option.{option_map}
use Rattle.std.proofs.lemmas.List.{drop-drop}
use Rattle.std.proofs.lemmas.Slice.{between_to_end}
use Rattle.wire.specs.Words.{field_at}
use Rattle.requests.proofs.Telling.{text_behind}
use Rattle.requests.proofs.reading.read_text.Goals as goal

pub returns : goal.returns
returns c =
    let bs = c.args.body.now in
    let at = c.args.at in
    let rest = c.in_ok-get.ensures.lookup.0.2 ∙ between_to_end bs at (length bs) (omega arith) in
    let text = c.in_ok-text.ensures.lookup.0.2 ∙ between_to_end c.in_ok-get.field-0.now 4 (length c.in_ok-get.field-0.now) (omega arith) ∙ ap (drop 4) rest ∙ drop-drop 4 at bs in
    ap (option_map (λ b. b.now)) c.then_some.ensures ∙ text_behind bs c.in_ok-text.text at c.in_ok-count.count (c.in_ok-count.ensures ∙ ap (λ k. field_at bs at k 0 268435455) c.number.ensures) (omega (arith, length-drop at bs, ap length rest, c.in_ok-text.ensures.lookup.0.0, c.in_ok-get.ensures.lookup.0.0)) text
