use Rattle.std.proofs.Common.{arith}
use Rattle.std.proofs.lemmas.Grind.{common_steps}
use Rattle.routes.proofs.word_type.Goals as goal

-- the search finds it too, but not with half its limits
pub returns-in-route-3 : goal.returns-in-route-3
returns-in-route-3 c = grind (arith, common_steps)
