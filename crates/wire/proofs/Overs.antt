-- Bytes written over a list, one part behind another. Assumes nothing.
use Rattle.std.proofs.Common.{◌≡◌, ℕ, ◌+◌, ◌≤◌, List, [], ◌++◌, length, take, drop, sym, ap, ◌∙◌, arith, length-append, length-drop, take-append-drop}
use Rattle.std.proofs.lemmas.List.{append_assoc, take_at, drop_at, length-take-le, drop-drop}
use Rattle.wire.specs.Words.{over}

pub over_none : (out : List ℕ) (i : ℕ) → over out i [] ≡ out
over_none out i = ap (λ (n : ℕ). take i out ++ drop n out) (let e : i + 0 ≡ i = omega arith in e) ∙ take-append-drop i out

-- a part, and another right behind it, are both in a row
pub over_over : (out a b : List ℕ) (i j : ℕ) → i ≤ length out → j ≡ i + length a → over (over out i a) j b ≡ over out i (a ++ b)
over_over out a b i j l e =
    let front = take i out ++ a in
    let long : length front ≡ j = length-append (take i out) a ∙ omega (arith, length-take-le i out l) in
    let split : over out i a ≡ front ++ drop (i + length a) out = sym (append_assoc (take i out) a (drop (i + length a) out)) in
    let rest : drop (j + length b) (over out i a) ≡ drop (i + length (a ++ b)) out =
    ap (drop (j + length b)) split ∙ sym (drop-drop (length b) j (front ++ drop (i + length a) out)) ∙ ap (drop (length b)) (drop_at front (drop (i + length a) out) j long)
    ∙ drop-drop (length b) (i + length a) out ∙ ap (λ (n : ℕ). drop n out) (let k : i + length a + length b ≡ i + length (a ++ b) = omega (arith, length-append a b) in k) in
    (λ k. (ap (take j) split ∙ take_at front (drop (i + length a) out) j long) k ++ (b ++ rest k)) ∙ append_assoc (take i out) a (b ++ drop (i + length (a ++ b)) out)
    ∙ ap (λ r. take i out ++ r) (sym (append_assoc a b (drop (i + length (a ++ b)) out)))

pub over_length : (out new : List ℕ) (i : ℕ) → i + length new ≤ length out → length (over out i new) ≡ length out
over_length out new i l =
    length-append (take i out) (new ++ drop (i + length new) out)
    ∙ omega (arith, length-append new (drop (i + length new) out), length-take-le i out (omega arith), length-drop (i + length new) out)
