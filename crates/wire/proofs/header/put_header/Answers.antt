use Rattle.std.proofs.Common.{◌+◌, ◌++◌, decimal, ap, ◌∙◌, append_assoc, arith, length-append}
use Rattle.std.proofs.lemmas.Fmt.{length-decimal-le}
use Rattle.wire.specs.Headers.{heading, label, ending}
use Rattle.wire.specs.Words.{over}
use Rattle.wire.proofs.Overs.{over_over}
use Rattle.wire.proofs.header.put_header.Goals as goal

pub put_decimal-b-requires : goal.put_decimal-b-requires
put_decimal-b-requires c = omega (arith, length-decimal-le 5 c.args.n (omega arith) (omega arith) (omega arith), c.put_bytes-a.auto.out)

pub put_bytes-requires : goal.put_bytes-requires
put_bytes-requires c = omega (arith, length-decimal-le 5 c.args.n (omega arith) (omega arith) (omega arith), c.put_bytes-a.auto.out, c.put_decimal-b.auto.out)

pub returns : goal.returns
unfolding heading
returns c =
    let n = c.args.n in
    let out = c.args.out.now in
    let few = length-decimal-le 5 n (omega arith) (omega arith) (omega arith) in
    let size = length-append label (decimal n ++ ending) ∙ ap (λ k. 16 + k) (length-append (decimal n) ending) in
    record {
      within = omega arith;
      next = omega (arith, size);
      bytes =
          c.put_bytes.ensures.bytes ∙ ap (λ l. over l c.put_decimal-b.result ending) (c.put_decimal-b.ensures.bytes ∙ ap (λ l. over l c.put_bytes-a.result (decimal n)) c.put_bytes-a.ensures.bytes
          ∙ over_over out label (decimal n) 0 c.put_bytes-a.result (omega arith) c.put_bytes-a.ensures.next)
          ∙ over_over out (label ++ decimal n) ending 0 c.put_decimal-b.result (omega arith) (omega (arith, length-append label (decimal n)))
          ∙ ap (over out 0) (append_assoc label (decimal n) ending);
    }
