use Rattle.std.proofs.Common.{◌≡◌, ◌+◌, ◌*◌, ◌++◌, length, ap, ◌∙◌, arith, length-append}
use Rattle.wire.specs.Headers.{heading}
use Rattle.wire.specs.Words.{over, words}
use Rattle.wire.proofs.Overs.{over_over, over_length}
use Rattle.wire.proofs.Wording.{words_length}
use Rattle.wire.proofs.frames.put_frame.Goals as goal

pub returns : goal.returns
returns c =
    let out = c.args.out.now in
    let ws = words c.args.given.now in
    let tail = c.args.tail.now in
    let n = 4 * length c.args.given.now + length tail in
    let size : n ≡ length (ws ++ tail) = omega (arith, length-append ws tail, words_length c.args.given.now) in
    let a = c.put_header-a.result in
    let a-is = c.put_header-a.ensures.next in
    let f = over out 0 (heading n) in
    let long : length f ≡ length out = over_length out (heading n) 0 (omega (arith, c.requires.room, a-is, c.put_header-a.ensures.within)) in
    let b-is = c.put_words-b.ensures.next in
    let body : c.put_bytes.new.out ≡ over f a (ws ++ tail) =
    c.put_bytes.ensures.bytes ∙ ap (λ o. over o c.put_words-b.result tail) (c.put_words-b.ensures.bytes ∙ ap (λ o. over o a ws) c.put_header-a.ensures.bytes)
    ∙ over_over f ws tail a c.put_words-b.result (omega (arith, long, c.requires.room, c.put_header-a.ensures.within)) (omega (arith, b-is, words_length c.args.given.now)) in
    record {
      size = omega (arith, c.put_bytes.ensures.next, b-is, a-is, length-append (heading (length (ws ++ tail))) (ws ++ tail), size, ap (λ k. length (heading k)) size);
      bytes = body ∙ over_over out (heading n) (ws ++ tail) 0 a (omega arith) (omega (arith, a-is)) ∙ ap (λ k. over out 0 (heading k ++ (ws ++ tail))) size;
    }
