use Rattle.std.proofs.Common.{◌≤◌, ap, length, ◌∙◌, arith}
use Rattle.std.proofs.lemmas.Grind.{common_steps}
use Rattle.std.proofs.lemmas.List.{length-take-le}
use Rattle.std.proofs.lemmas.Result.{err_from_is_err_and}
use Rattle.text.proofs.Changing.{text_is}
use Rattle.languages.specs.Tokens.{tokens}
use Rattle.coding.specs.Coding.{fresh, TokensAreInOrder, FreshCodingsFitWords, FirstTokensCodeFirst}
use Rattle.coding.proofs.Gathering.{fresh_length}
use Rattle.coding.proofs.Orders.{tokens_are_in_order, fresh_codings_fit_words, first_tokens_code_first}
use Rattle.coding.proofs.Checking.{bad_text, too_many, coded}
use Rattle.coding.proofs.coder.code.Goals as goal

-- what is coded, beside the three laws
with_laws : {C : Type 0} → C → record { code : C; order : TokensAreInOrder; words : FreshCodingsFitWords; first : FirstTokensCodeFirst }
with_laws code = record { code = code; order = tokens_are_in_order; words = fresh_codings_fit_words; first = first_tokens_code_first }

pub returns-then-list-lt-LIST_LIMIT : goal.returns-then-list-lt-LIST_LIMIT
returns-then-list-lt-LIST_LIMIT g c = with_laws (grind (arith, common_steps))

pub returns-in_err-text : goal.returns-in_err-text
returns-in_err-text g c =
    let u = g.E.PositionEncoding.units c.args.encoding.now in
    let next = g.L.Language.next c.args.language.now in
    let p = err_from_is_err_and c.from_residual.result c.from_residual.ensures.1 in
    with_laws (rw (p.1, p.2) (bad_text u next c.args.text.now c.args.list.now c.if-list-lt-LIST_LIMIT.false c.args.text.now _ c.in_err-text.ensures))

pub returns-then-count-gt-TOKEN_LIMIT : goal.returns-then-count-gt-TOKEN_LIMIT
returns-then-count-gt-TOKEN_LIMIT g c =
    let u = g.E.PositionEncoding.units c.args.encoding.now in
    let next = g.L.Language.next c.args.language.now in
    let t = c.args.text.now in
    let same = ap (λ x. length (tokens next x)) (text_is t _ c.in_ok-text.ensures) in
    with_laws (too_many u next t c.args.list.now c.if-list-lt-LIST_LIMIT.false t _ c.in_ok-text.ensures (omega (arith, same)))

pub returns : goal.returns
returns g c =
    let u = g.E.PositionEncoding.units c.args.encoding.now in
    let next = g.L.Language.next c.args.language.now in
    let t = c.args.text.now in
    let list = c.args.list.now in
    let room = c.if-list-lt-LIST_LIMIT.false in
    let same = text_is t _ c.in_ok-text.ensures in
    let long = c.gather.auto.list ∙ length-take-le 2560 list room in
    let size = c.gather.ensures.size ∙ ap (λ x. length (fresh u next x)) same in
    let count = ap (λ x. length (tokens next x)) same in
    let few : length (tokens next t) ≤ 512 = omega arith in
    let numbers = c.gather.ensures.numbers ∙ ap (fresh u next) same in
    with_laws (coded u next t list room t _ c.in_ok-text.ensures few c.gather.result c.gather.new.list long (omega (arith, few, fresh_length u next t, size)) size numbers)
