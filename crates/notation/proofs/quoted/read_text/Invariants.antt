use Rattle.std.proofs.Common.{◌≡◌, length, vec_items}
use Rattle.notation.specs.Texts.{body_of, text_of}
use Rattle.notation.proofs.Bodies.{behind}
use Rattle.notation.proofs.quoted.read_text.Given as goal

-- what was read and what is left give the TEXT
abbrev pub invariant-loop-spelling : goal.invariant-loop-spelling
invariant-loop-spelling l = behind (vec_items l.bytes) (body_of 0 l.rest) ≡ text_of l.from

abbrev pub decreases-loop-spelling : goal.decreases-loop-spelling
decreases-loop-spelling l = length l.rest
