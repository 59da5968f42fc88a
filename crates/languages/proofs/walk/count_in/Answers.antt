use Rattle.std.proofs.Common.{ap, inl, length, arith}
use Rattle.text.proofs.Changing.{is_text}
use Rattle.languages.proofs.Steps.{few_tokens}
use Rattle.languages.proofs.walk.count_in.Goals as goal

pub count-requires-clause-fits : goal.count-requires-clause-fits
count-requires-clause-fits g c =
    let is = is_text c.args.text in
    inl (omega (arith, ap length c.new.ensures, few_tokens (g.L.Language.next c.args.language.now) c.args.text.bytes.now, is.short))
