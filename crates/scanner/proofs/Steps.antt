-- The steps of the look back. Assumes nothing.
use Rattle.std.proofs.Common.{◌≡◌, ℕ, zero, suc, ◌-◌, ◌<◌, ◌≤◌, Bool, true, false, cond, List, [], ◌∷◌, length, get_or, take, drop, Some, None, Option, sym, refl, ap, ◌∙◌, arith, length-append}
use Rattle.std.specs.List.{push}
use Rattle.std.specs.Option.{unwrap_or}
use Rattle.std.proofs.Math.Seq.{get_or-append_seam}
use Rattle.std.proofs.lemmas.List.{length-take-le, take-append-drop, get_or_past}
use Rattle.text.specs.Lines.{is_end}
use Rattle.scanner.specs.Leads.{blank, lead_of, after, clear_at}
use Rattle.scanner.proofs.Contents.{clear_cut}

-- whether only spaces and tabs stand behind the last line end
abbrev pub clear_behind : List ℕ → Bool
clear_behind s = clear_at s (length s)

after_lead : (flag : Bool) (b : ℕ) → after flag b ≡ unwrap_or (lead_of b) flag
after_lead flag b = elim (blank b) as (λ v. cond v flag (is_end b) ≡ unwrap_or (cond v None (Some (is_end b))) flag) [ true ↦ refl | false ↦ refl ]

-- by the byte before the place
pub clear_next : (text : List ℕ) (i : ℕ) (lead : Option Bool) → 0 < i → lead ≡ lead_of (get_or text (i - 1) 0) → unwrap_or lead (clear_at text (i - 1)) ≡ clear_at text i
clear_next text zero lead h e = absurd (omega arith)
clear_next text (suc i) lead h e =
    let k : suc i - 1 ≡ i = omega arith in
    ap (λ o. unwrap_or o (clear_at text (suc i - 1))) e ∙ sym (after_lead (clear_at text (suc i - 1)) (get_or text (suc i - 1) 0)) ∙ ap (λ (j : ℕ). after (clear_at text j) (get_or text j 0)) k

-- past the text stands nothing
pub clear_past : (text : List ℕ) (i : ℕ) → length text < i → clear_at text i ≡ false
clear_past text zero h = absurd (omega arith)
clear_past text (suc i) h = ap (after (clear_at text i)) (get_or_past text i 0 (omega arith))

-- the last byte says it, or what stands before that
pub clear_by_last : (s r : List ℕ) (b : ℕ) (o : Option Bool) → s ≡ push r b → o ≡ lead_of b → unwrap_or o (clear_behind r) ≡ clear_behind s
clear_by_last s r b o e l =
    let n : length (push r b) ≡ suc (length r) = omega (arith, length-append r (b ∷ [])) in
    ap (λ v. unwrap_or v (clear_behind r)) l ∙ sym (after_lead (clear_behind r) b)
    ∙ sym (λ i. after (clear_cut r (b ∷ []) (length r) (omega arith) i) (get_or-append_seam r b [] 0 i))
    ∙ sym (ap (clear_at (push r b)) n) ∙ sym (ap clear_behind e)

-- the bytes before a place say what stands before it
pub clear_front : (text : List ℕ) (n : ℕ) → n ≤ length text → clear_behind (take n text) ≡ clear_at text n
clear_front text n h =
    let long = length-take-le n text h in
    ap (clear_at (take n text)) long ∙ sym (clear_cut (take n text) (drop n text) n (omega arith)) ∙ ap (λ s. clear_at s n) (take-append-drop n text)
