use Rattle.std.proofs.Common.{◌≡◌, take, sym, ap, ◌∙◌, arith}
use Rattle.std.proofs.lemmas.Grind.{common_steps}
use Rattle.scanner.specs.Leads.{clear_at}
use Rattle.scanner.proofs.Steps.{clear_behind, clear_by_last, clear_front}
use Rattle.scanner.proofs.leads.is_clear.Goals as goal

pub loop-b-init : goal.loop-b-init
loop-b-init c =
    let front : c.into_iter-b-iterator.result.iter.rest.now ≡ take c.args.place.0 c.args.text.now = grind (arith, common_steps) in
    ap clear_behind front ∙ clear_front c.args.text.now c.args.place.0 c.in-Some.ensures.lookup.0.1

pub returns-in-Some-lead_of : goal.returns-in-Some-lead_of
returns-in-Some-lead_of c = clear_by_last _ _ _ _ c.in-Some-b.ensures.steps c.in-Some-lead_of.ensures ∙ c.loop-b.invariant

pub loop-b-preserved : goal.loop-b-preserved
loop-b-preserved c = clear_by_last _ _ _ _ c.in-Some-b.ensures.steps c.in_default-lead_of.ensures ∙ c.loop-b.invariant

pub returns : goal.returns
returns c = sym (ap (clear_at c.loop-b.b-iterator.iter.rest.now) c.in-None.ensures.steps.0) ∙ c.loop-b.invariant
