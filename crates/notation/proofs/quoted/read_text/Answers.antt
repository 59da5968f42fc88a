use Rattle.std.proofs.Common.{sym, ap, ◌∙◌, append-nil, vec_items}
use Rattle.std.specs.Option.{option_and_then}
use Rattle.notation.specs.Texts.{body_of}
use Rattle.notation.proofs.Bodies.{behind, behind_none, behind_more, body_more, body_stop, text_opened}
use Rattle.notation.proofs.quoted.read_text.Goals as goal

pub returns-in_default : goal.returns-in_default
returns-in_default c = sym (text_opened c.args.from.now ∙ ap (option_and_then (body_of 0)) (sym c.in_default.ensures.behind))

pub loop-spelling-init : goal.loop-spelling-init
loop-spelling-init c =
    let rest = body_of 0 c.in-Some.rest.now in
    ap (λ bs. behind bs rest) c.new-bytes.ensures.items ∙ behind_none rest ∙ ap (option_and_then (body_of 0)) c.in-Some.ensures.behind ∙ sym (text_opened c.args.from.now)

pub loop-spelling-preserved : goal.loop-spelling-preserved
loop-spelling-preserved c =
    let s = c.in-Some-read_spelling.spelling in
    let read = c.in-Some-read_spelling.ensures in
    let more = body_more c.loop-spelling.rest.now s.rest.now s.value (sym read.value) read.shorter in
    rw (c.in_ok-push.ensures.items, behind_more (vec_items c.loop-spelling.bytes) s.value (body_of 0 s.rest.now)) (rw more at c.loop-spelling.invariant)

pub returns-in_default-read_mark : goal.returns-in_default-read_mark
returns-in_default-read_mark c =
    let stop = body_stop c.loop-spelling.rest.now (sym c.in_default-read_spelling.ensures.value) in
    rw (stop, ← c.in_default-read_mark.ensures.behind) at c.loop-spelling.invariant

pub returns : goal.returns
returns c =
    let stop = body_stop c.loop-spelling.rest.now (sym c.in_default-read_spelling.ensures.value) in
    let all = append-nil (vec_items c.loop-spelling.bytes) in
    rw (← all) (rw (stop, ← c.in-Some-read_mark.ensures.behind) at c.loop-spelling.invariant)
