use Rattle.std.proofs.Common.{refl}
use Rattle.text.proofs.Changing.{is_text}
use Rattle.languages.specs.Tokens.{tokens}
use Rattle.languages.proofs.walk.Tokens.new.Goals as goal

pub invariant_of-result : goal.invariant_of-result
invariant_of-result g c = is_text c.args.text

pub returns : goal.returns
unfolding tokens
returns g c = refl
