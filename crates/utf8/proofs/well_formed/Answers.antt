use Rattle.std.proofs.Common.{◌≡◌, ◌<◌, false, length, drop, IsUtf8, sym, subst, ap, ◌∙◌, arith}
use Rattle.std.proofs.lemmas.Bool.{false≢true}
use Rattle.std.proofs.lemmas.Bool.Decides.{same_from_decides, nat_tests}
use Rattle.std.proofs.lemmas.List.{nil_from_length}
use Rattle.std.proofs.lemmas.Slice.{between_to_end}
use Rattle.std.proofs.lemmas.Str.{IsUtf8-nil}
use Rattle.utf8.specs.Grammar.{well_formed}
use Rattle.utf8.proofs.Syntax.{test_decides_utf8, table_is_utf8}
use Rattle.utf8.proofs.Texts.{not_text, text_past, text_back}
use Rattle.utf8.proofs.well_formed.Goals as goal

pub returns-in_default : goal.returns-in_default
returns-in_default c =
    let t = c.args.text.now in
    let r = c.loop-rest.rest.now in
    let some : 0 < length r = grind (arith, nat_tests) in
    let is = same_from_decides false (well_formed t) (λ e. absurd (false≢true e), λ u. absurd (not_text r some c.in_default.ensures (c.loop-rest.invariant.0 u))) (test_decides_utf8 t) in
    record { test = is; decides = test_decides_utf8; table = table_is_utf8 }

pub loop-rest-preserved : goal.loop-rest-preserved
loop-rest-preserved c =
    let r = c.loop-rest.rest.now in
    let e = between_to_end r c.len_utf8.result (length r) (omega arith) ∙ ap (λ n. drop n r) c.len_utf8.ensures.value in (
      λ u. subst IsUtf8 (sym e) (text_past r c.in-Some.c c.in-Some.ensures (c.loop-rest.invariant.0 u)),
      λ u. c.loop-rest.invariant.1 (text_back r c.in-Some.c c.in-Some.ensures (subst IsUtf8 e u)),
    )

pub returns : goal.returns
returns c =
    let none : length c.loop-rest.rest.now ≡ 0 = grind (arith, nat_tests) in
    let text = c.loop-rest.invariant.1 (subst IsUtf8 (sym (nil_from_length _ none)) IsUtf8-nil) in
    record { test = sym ((test_decides_utf8 c.args.text.now).1 text); decides = test_decides_utf8; table = table_is_utf8 }
