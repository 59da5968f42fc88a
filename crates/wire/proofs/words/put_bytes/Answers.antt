use Rattle.std.proofs.Common.{◌≡◌, ℕ, ◌+◌, ◌-◌, List, ◌++◌, length, take, drop, refl, ap, ◌∙◌, arith}
use Rattle.std.proofs.lemmas.List.{drop-drop}
use Rattle.wire.specs.Words.{over}
use Rattle.wire.proofs.words.put_bytes.Goals as goal

-- what lies behind the part is what lay there
behind : (out new : List ℕ) (at : ℕ) → take at out ++ (new ++ drop (at + length new - at) (drop at out)) ≡ over out at new
behind out new at =
    let e : at + (at + length new - at) ≡ at + length new = omega arith in
    ap (λ r. take at out ++ (new ++ r)) (drop-drop (at + length new - at) at out ∙ ap (λ (n : ℕ). drop n out) e)

pub returns : goal.returns
returns c =
    let wrote = c.copy_from_slice.ensures.after in
    record { next = refl; bytes = simp wrote (behind c.args.out.now c.args.bytes.now c.args.at) }
