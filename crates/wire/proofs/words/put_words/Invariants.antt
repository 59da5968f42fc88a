use Rattle.std.proofs.Common.{◌≡◌, ◌+◌, ◌*◌, take}
use Rattle.wire.specs.Words.{over, words}
use Rattle.wire.proofs.words.put_words.Given as goal

abbrev pub invariant-loop-word : goal.invariant-loop-word
invariant-loop-word l = (l.out ≡ over l.fn.out l.start (words (take l.word-index l.given))) × (l.«at» ≡ l.start + 4 * l.word-index)
