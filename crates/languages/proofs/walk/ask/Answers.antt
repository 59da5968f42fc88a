use Rattle.languages.proofs.Steps.{asked}
use Rattle.languages.proofs.walk.ask.Goals as goal

pub returns-clause-step : goal.returns-clause-step
returns-clause-step g c is = asked (g.met.L.Language.lawful c.args.language.now) c.args.text.now is c.args.from.0 c.next_token.result c.next_token.ensures
