-- Names at the front of a list, out of a table of names and of what they stand for. Assumes nothing.
use Rattle.std.specs.Prelude.{◌≡◌, ℕ, ◌<◌, List, ◌++◌, length, take, slice_index_or, Some, None, Option, ◌≢◌}
use Rattle.std.specs.List.{All}
use denote.Ref.{Bor}
use Rattle.notation.specs.declared.parsed.Parsed.{Parsed}

module _ {T : Type 0} where
  -- the list begins with no name of the table
  abbrev pub IsUnnamed : List (Bor (List ℕ) × T) → List ℕ → Type 0
  IsUnnamed names bs = All (λ n. (rest : List ℕ) → bs ≢ n.0.now ++ rest) names

  -- the list is a name of the table, the first that it begins with, and what follows it
  pub record IsNamed (names : List (Bor (List ℕ) × T)) (bs : List ℕ) (p : Parsed T) : Type 0 where
    pub place : ℕ
    pub entry : Bor (List ℕ) × T
    pub there : place < length names
    pub is : slice_index_or names place entry ≡ entry
    pub value : p.value ≡ entry.1
    pub whole : bs ≡ entry.0.now ++ p.rest.now
    pub first : IsUnnamed (take place names) bs

  abbrev pub IsNamedIn : List (Bor (List ℕ) × T) → List ℕ → Option (Parsed T) → Type 0
  IsNamedIn names bs None = IsUnnamed names bs
  IsNamedIn names bs (Some p) = IsNamed names bs p
