use Rattle.std.proofs.Common.{sym, ◌∙◌}
use Rattle.std.proofs.lemmas.Iterator.Adapters.{option_map_id}
use Rattle.std.proofs.lemmas.Iterator.Consumers.{nth_from_yields_List, YieldsList-from_first}
use Rattle.coding.proofs.Orders.{decoding_undoes_coding}
use Rattle.coding.proofs.decoder.token_at.Goals as goal

pub returns-clause-token : goal.returns-clause-token
returns-clause-token c =
    sym (option_map_id c.nth.result) ∙ nth_from_yields_List c.nth.result c.nth.new.self c.args.k c.nth.ensures.ran (YieldsList-from_first (λ x. x) (λ s. s) _ c.new.ensures.tokens)

pub returns-clause-back : goal.returns-clause-back
returns-clause-back c = decoding_undoes_coding
