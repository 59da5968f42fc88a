use Rattle.std.proofs.Common.{◌≡◌, ℕ, ◌-◌, List, take, sym, ap, ◌∙◌, arith}
use borrow.Rule.Slice.PartMut.{post_of}
use Rattle.std.proofs.lemmas.Result.{err_from_is_err_and}
use Rattle.std.specs.Option.{is_some, unwrap_or}
use Rattle.refusals.specs.Numbers.{number_of}
use Rattle.text.specs.Positions.{unsound}
use Rattle.commission.specs.Rules.{ready_rule}
use Rattle.commission.proofs.Typing.{held, not_ready, changed, unchanged}
use Rattle.commission.proofs.session.Session.type_text.Goals as goal

-- a part from the start, as a `&mut` lends it
part : (n : ℕ) (lent items : List ℕ) → lent ≡ items → take (n - 0) lent ≡ take n items
part n lent items e = let same : n - 0 ≡ n = omega arith in ap (λ k. take k lent) same ∙ ap (take n) e

pub returns-in_err-size : goal.returns-in_err-size
returns-in_err-size c =
    let p = err_from_is_err_and c.from_residual.result c.from_residual.ensures.1 in
    rw (p.1, p.2) (not_ready c.args.self.now c.args.range c.args.inserted.now (take c.args.self.now.lent c.deref.result.now) (ap (take _) c.deref.ensures.value) (number_of c.in_err-size.field-0.0) c.in_err-size.ensures.rule)

pub returns-in_err-change : goal.returns-in_err-change
returns-in_err-change c =
    let p = err_from_is_err_and c.from_residual-in_err-change.result c.from_residual-in_err-change.ensures.1 in
    let s = c.args.self.now in
    let memory = take (s.lent - 0) c.deref_mut.result.now in
    let is = part _ _ _ c.deref_mut.ensures.value in
    let ready = c.in_ok-size.ensures.rule ∙ ap (λ m. ready_rule (unsound m (held s)) (is_some s.size) c.args.inserted.now) (ap (take _) c.deref.ensures.value ∙ sym is) in
    let size : c.in_ok-size.size ≡ held s = sym (ap (λ n. unwrap_or n 0) c.in_ok-size.ensures.size) in
    let rest = post_of 0 (s.lent - 0) c.deref_mut.result.now in
    rw (p.1, p.2) (unchanged s c.args.range c.args.inserted.now memory is tt ready (number_of c.in_err-change.field-0.0) c.change.new.memory rest (rw size at c.in_err-change.ensures.rule))

pub returns : goal.returns
returns c =
    let s = c.args.self.now in
    let memory = take (s.lent - 0) c.deref_mut.result.now in
    let is = part _ _ _ c.deref_mut.ensures.value in
    let ready = c.in_ok-size.ensures.rule ∙ ap (λ m. ready_rule (unsound m (held s)) (is_some s.size) c.args.inserted.now) (ap (take _) c.deref.ensures.value ∙ sym is) in
    let size : c.in_ok-size.size ≡ held s = sym (ap (λ n. unwrap_or n 0) c.in_ok-size.ensures.size) in
    let rest = post_of 0 (s.lent - 0) c.deref_mut.result.now in
    changed s c.args.range c.args.inserted.now memory is tt ready c.in_ok-change.field-0 c.change.new.memory rest c.in_ok-change.ensures.short (rw size at c.in_ok-change.ensures.rule)
