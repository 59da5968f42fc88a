use Rattle.std.proofs.Common.{◌≡◌, take, ap, ◌∙◌, arith}
use Rattle.std.proofs.lemmas.List.{take_min}
use Rattle.coding.specs.Coding.{decode}
use Rattle.coding.proofs.Orders.{decoding_undoes_coding}
use Rattle.coding.proofs.decoder.Decoded.new.Goals as goal

pub returns-clause-tokens : goal.returns-clause-tokens
returns-clause-tokens c =
    let list = c.args.list.now in
    let front : take c.min.result list ≡ take 2560 list = ap (λ n. take n list) (omega arith) ∙ take_min 2560 list in
    ap (decode 0 0) front

pub returns-clause-back : goal.returns-clause-back
returns-clause-back c = decoding_undoes_coding
