use Rattle.std.proofs.lemmas.Result.{err_from_is_err_and}
use Rattle.text.proofs.Placing.{line_at_place, placed, range_stuck_start, range_stuck_end, range_back, range_placed}
use Rattle.text.proofs.positions.places.Goals as goal

pub returns-in_err-start : goal.returns-in_err-start
returns-in_err-start g c =
    let first = line_at_place _ _ _ c.in_ok-first.ensures.ok_part c.line_start.ensures.start in
    let last = line_at_place _ _ _ c.in_ok-last.ensures.ok_part c.line_start-2.ensures.start in
    let p = err_from_is_err_and c.from_residual-in_err-start.result c.from_residual-in_err-start.ensures.1 in
    rw (p.1, p.2) (range_stuck_start (g.E.PositionEncoding.units c.args.encoding.now) c.args.text.now c.args.range c.in_ok-first.first.0 c.in_ok-last.last.0 first last _ c.in_err-start.ensures)

pub returns-in_err-end : goal.returns-in_err-end
returns-in_err-end g c =
    let first = line_at_place _ _ _ c.in_ok-first.ensures.ok_part c.line_start.ensures.start in
    let last = line_at_place _ _ _ c.in_ok-last.ensures.ok_part c.line_start-2.ensures.start in
    let p = err_from_is_err_and c.from_residual-in_err-end.result c.from_residual-in_err-end.ensures.1 in
    rw (p.1, p.2) (range_stuck_end (g.E.PositionEncoding.units c.args.encoding.now) c.args.text.now c.args.range c.in_ok-first.first.0 c.in_ok-last.last.0 first last _ c.in_ok-start.start.0 c.in_ok-start.ensures c.in_err-end.ensures)

pub returns-then-end-start : goal.returns-then-end-start
returns-then-end-start g c =
    let u = g.E.PositionEncoding.units c.args.encoding.now in
    let t = c.args.text.now in
    let r = c.args.range in
    let first = line_at_place _ _ _ c.in_ok-first.ensures.ok_part c.line_start.ensures.start in
    let last = line_at_place _ _ _ c.in_ok-last.ensures.ok_part c.line_start-2.ensures.start in
    range_back u t r _ _ (placed u t r.start _ first _ c.in_ok-start.ensures) (placed u t r.end _ last _ c.in_ok-end.ensures) c.if-end-start.true

pub returns : goal.returns
returns g c =
    let u = g.E.PositionEncoding.units c.args.encoding.now in
    let t = c.args.text.now in
    let r = c.args.range in
    let first = line_at_place _ _ _ c.in_ok-first.ensures.ok_part c.line_start.ensures.start in
    let last = line_at_place _ _ _ c.in_ok-last.ensures.ok_part c.line_start-2.ensures.start in
    range_placed u t r _ _ (placed u t r.start _ first _ c.in_ok-start.ensures) (placed u t r.end _ last _ c.in_ok-end.ensures) c.if-end-start.false
