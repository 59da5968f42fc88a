use Rattle.std.proofs.Common.{◌≡◌, ◌*◌, length, get_or, take, sym, ap, ◌∙◌, arith}
use Rattle.std.proofs.lemmas.List.{length-take-le}
use Rattle.wire.specs.declared.words.Word.{Word}
use Rattle.wire.specs.Words.{over, words, word_of}
use Rattle.wire.proofs.Overs.{over_over}
use Rattle.wire.proofs.Wording.{words_length, words_more}
use Rattle.wire.proofs.words.put_words.Goals as goal

pub loop-word-preserved : goal.loop-word-preserved
loop-word-preserved c =
    let out = c.args.out.now in
    let start = c.args.start in
    let ws = c.args.given.now in
    let i = c.loop-word.word-index in
    let inv = c.loop-word.invariant in
    let done = words (take i ws) in
    let none : Word = record { 0 = 0; 1 = 0 } in
    let new = word_of (get_or ws i none).0 (get_or ws i none).1 in
    let size : length done ≡ 4 * i = words_length (take i ws) ∙ ap (λ n. 4 * n) (length-take-le i ws (omega arith)) in (
      c.put-at.ensures.bytes ∙ ap (λ o. over o c.loop-word.«at» new) inv.0
          ∙ over_over out done new start c.loop-word.«at» (omega (arith, c.requires.room)) (omega (arith, inv.1, size))
          ∙ ap (over out start) (sym (words_more ws i none c.loop-word-test.true)),
      omega (arith, c.put-at.ensures.next, inv.1),
    )
