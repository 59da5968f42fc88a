-- What a table of names reads, where each name is that of the value beside it. Assumes nothing.
use Rattle.std.proofs.Common.{◌≡◌, ◌≢◌, ℕ, ◌<◌, List, ◌++◌, Bor, length, slice_index_or, sym, ap, subst, ◌∙◌}
use Rattle.std.specs.List.{All}
use Rattle.notation.specs.declared.parsed.Parsed.{Parsed}
use Rattle.notation.specs.Names.{IsUnnamed, IsNamed}

module _ {T : Type 0} (name : T → List ℕ) (names : List (Bor (List ℕ) × T)) (right : All (λ n. n.0.now ≡ name n.1) names) (bs : List ℕ) where
  pub named : (p : Parsed T) → IsNamed names bs p → bs ≡ name p.value ++ p.rest.now
  named p h =
      let P : Bor (List ℕ) × T → Type 0 = λ m. m.0.now ≡ name m.1 in
      h.whole ∙ ap (λ l. l ++ p.rest.now) (subst P h.is (right h.place h.entry h.there) ∙ ap name (sym h.value))

  pub unnamed : IsUnnamed names bs → (k : ℕ) (d : Bor (List ℕ) × T) → k < length names → (rest : List ℕ) → bs ≢ name (slice_index_or names k d).1 ++ rest
  unnamed h k d lt rest e = h k d lt rest (e ∙ ap (λ l. l ++ rest) (sym (right k d lt)))
