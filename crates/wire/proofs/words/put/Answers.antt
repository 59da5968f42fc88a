use Rattle.std.proofs.Common.{rules}
use Rattle.wire.specs.Words.{word_of}
use Rattle.wire.proofs.words.put.Goals as goal

pub returns : goal.returns
unfolding word_of
returns c = search rules
