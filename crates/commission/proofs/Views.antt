-- What a session shows after a write to its memory. Assumes nothing.
use Rattle.std.proofs.Common.{◌≡◌, ℕ, ◌≤◌, List, ◌++◌, length, take, drop, Vec, ◌∙◌, arith}
use Rattle.std.specs.Vec.{with_items}
use Rattle.std.specs.declared.alloc.Global.{Global}
use Rattle.std.proofs.lemmas.List.{take-take, take-append-le, length-append}

-- the front of a vector whose first elements were written
pub front : (v : Vec ℕ Global) (n : ℕ) (written rest : List ℕ) → n ≤ v.len → n ≤ length written → take n (with_items v (written ++ rest)).items ≡ take n written
front v n written rest h l =
    let all = written ++ rest in
    let more : n ≤ length all = simp length-append (omega arith) in
    take-take n v.len (all ++ drop (length all) v.items) h ∙ take-append-le n all (drop (length all) v.items) more ∙ take-append-le n written rest l
