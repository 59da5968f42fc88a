use Rattle.std.proofs.Common.{◌≡◌, ◌++◌, map, length, take, sym, refl, ap, ◌∙◌, arith, rules, append-nil}
use Rattle.text.proofs.Changing.{is_text}
use Rattle.languages.specs.Tokens.{rest, tokens, end}
use Rattle.coding.specs.Placing.{line_of, column_of, placed}
use Rattle.coding.specs.Coding.{code, fresh}
use Rattle.coding.proofs.Gathering.{coded_more, fresh_length, units_between, next_left}
use Rattle.coding.proofs.coder.gather.Goals as goal

pub loop-token-init : goal.loop-token-init
unfolding fresh tokens
loop-token-init g c =
    let u = g.E.PositionEncoding.units c.args.encoding.now in
    let t = c.args.text.bytes.now in
    let all : c.into_iter-token-iterator.result ≡ tokens (g.L.Language.next c.args.language.now) t = c.into_iter-token-iterator.ensures.into_iter_gives ∙ c.new-token-items.ensures in
    record {
      can = tt;
      ends = tt;
      left = all;
      slots_name = refl;
      kept_length = refl;
      so_far = λ i. take (c.new-numbers.ensures.used i) c.new-numbers.result.slots.now ++ code 0 0 (map (placed u t) (all i));
      used = omega (arith, ap length all);
      here = record { line = refl; column = refl };
      within = omega arith;
    }

pub advance-start-requires-clause-forward : goal.advance-start-requires-clause-forward
advance-start-requires-clause-forward g c =
    let first = next_left (g.met.L.Language.lawful c.args.language.now) c.args.text.bytes.now (is_text c.args.text) _ _ _ _ c.loop-token.invariant.left c.in-Some.ensures.steps in
    first.0.start

pub advance-start-requires-clause-within : goal.advance-start-requires-clause-within
advance-start-requires-clause-within g c =
    let first = next_left (g.met.L.Language.lawful c.args.language.now) c.args.text.bytes.now (is_text c.args.text) _ _ _ _ c.loop-token.invariant.left c.in-Some.ensures.steps in
    omega (arith, first.0.inside)

pub overflow_add-start : goal.overflow_add-start
overflow_add-start g c =
    let first = next_left (g.met.L.Language.lawful c.args.language.now) c.args.text.bytes.now (is_text c.args.text) _ _ _ _ c.loop-token.invariant.left c.in-Some.ensures.steps in
    omega (arith, first.0.inside, c.args.text.short)

pub advance-end-requires-clause-within : goal.advance-end-requires-clause-within
advance-end-requires-clause-within g c =
    let first = next_left (g.met.L.Language.lawful c.args.language.now) c.args.text.bytes.now (is_text c.args.text) _ _ _ _ c.loop-token.invariant.left c.in-Some.ensures.steps in
    omega (arith, first.0.inside)

pub overflow_sub-units : goal.overflow_sub-units
overflow_sub-units g c =
    let u = g.E.PositionEncoding.units c.args.encoding.now in
    let t = c.args.text.bytes.now in
    let k = c.in-Some.token in
    let first = next_left (g.met.L.Language.lawful c.args.language.now) t (is_text c.args.text) _ _ _ _ c.loop-token.invariant.left c.in-Some.ensures.steps in
    let there : c.advance-end.result.at ≡ end k = omega arith in
    let start : c.advance-start.result.column ≡ column_of u t k.place.0 0 = c.advance-start.ensures.there.column ∙ ap (λ n. column_of u t n 0) c.advance-start.ensures.at in
    let stop : c.advance-end.result.column ≡ column_of u t (end k) 0 = c.advance-end.ensures.there.column ∙ ap (λ n. column_of u t n 0) there in
    omega (arith, start, stop, units_between u t _ _ k first.0)

pub put-requires : goal.put-requires
put-requires g c = omega (arith, ap length c.in-Some.ensures.steps, ap length c.new-numbers.ensures.slots, c.requires.few, c.requires.room)

pub loop-token-preserved : goal.loop-token-preserved
loop-token-preserved g c =
    let u = g.E.PositionEncoding.units c.args.encoding.now in
    let next = g.L.Language.next c.args.language.now in
    let t = c.args.text.bytes.now in
    let inv = c.loop-token.invariant in
    let k = c.in-Some.token in
    let before = c.loop-token.before in
    let old = take c.loop-token.numbers.used c.loop-token.numbers.slots.now in
    let others = c.next.new.self in
    let first = next_left (g.met.L.Language.lawful c.args.language.now) t (is_text c.args.text) _ _ _ _ inv.left c.in-Some.ensures.steps in
    let there : c.advance-end.result.at ≡ end k = omega arith in
    let line : c.advance-start.result.line ≡ line_of t k.place.0 = c.advance-start.ensures.there.line ∙ ap (line_of t) c.advance-start.ensures.at in
    let column : c.advance-start.result.column ≡ column_of u t k.place.0 0 = c.advance-start.ensures.there.column ∙ ap (λ n. column_of u t n 0) c.advance-start.ensures.at in
    let stop : c.advance-end.result.column ≡ column_of u t (end k) 0 = c.advance-end.ensures.there.column ∙ ap (λ n. column_of u t n 0) there in
    let so_far = sym (ap (λ r. old ++ code before.line before.column (map (placed u t) r)) c.in-Some.ensures.steps) ∙ inv.so_far in
    record {
      can = tt;
      ends = tt;
      left = sym first.1 ∙ ap (rest next t) (sym there);
      slots_name = c.put.ensures.slots_name ∙ inv.slots_name;
      kept_length = c.put.ensures.kept_length ∙ inv.kept_length;
      so_far = coded_more old _ _ _ _ _ before.line before.column _ _ (placed u t k) (map (placed u t) others) c.put.ensures.items line column c.saturating_sub-lines.ensures c.column_from-columns.ensures
          (omega (arith, column, stop, units_between u t _ _ k first.0)) so_far;
      used = omega (arith, ap length c.in-Some.ensures.steps, c.put.ensures.used);
      here = c.advance-end.ensures.there;
      within = omega (arith, first.0.inside);
    }

pub returns : goal.returns
returns g c =
    let u = g.E.PositionEncoding.units c.args.encoding.now in
    let next = g.L.Language.next c.args.language.now in
    let t = c.args.text.bytes.now in
    let inv = c.loop-token.invariant in
    let before = c.loop-token.before in
    let done = c.in-None.ensures.steps.0 in
    let list = take c.loop-token.numbers.used c.loop-token.numbers.slots.now in
    let all : list ≡ fresh u next t = sym (append-nil list) ∙ ap (λ r. list ++ code before.line before.column (map (placed u t) r)) (sym done) ∙ inv.so_far in
    let size : c.loop-token.numbers.used ≡ length (fresh u next t) = omega (arith, ap length done, fresh_length u next t) in
    record { size = c.len.ensures ∙ size; numbers = search rules }
