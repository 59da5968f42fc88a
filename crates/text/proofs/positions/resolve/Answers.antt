use Rattle.std.proofs.Common.{◌∙◌}
use Rattle.text.proofs.Placing.{line_at_place, resolve_from}
use Rattle.text.proofs.Lawful.{places_lie_between_characters}
use Rattle.text.proofs.positions.resolve.Goals as goal

pub returns-in_err-start-clause-between : goal.returns-in_err-start-clause-between
returns-in_err-start-clause-between g c = places_lie_between_characters

pub returns-clause-between : goal.returns-clause-between
returns-clause-between g c = places_lie_between_characters

pub returns-clause-place : goal.returns-clause-place
returns-clause-place g c =
    let at = line_at_place _ _ _ c.in_ok-start.ensures.ok_part c.line_start.ensures.start in
    c.place_along.ensures ∙ resolve_from (g.E.PositionEncoding.units c.args.encoding.now) c.args.text.now c.args.position c.in_ok-start.start.0 at
