use Rattle.std.proofs.Common.{◌≡◌, ℕ, List, [], ◌∷◌, codes, Bor, Some, None, Option, refl, arith}
use Rattle.std.specs.List.{All}
use Rattle.std.proofs.lemmas.List.Elements.{All-from_recursion}
use Rattle.notation.specs.declared.parsed.Parsed.{Parsed}
use Rattle.notation.specs.Names.{IsNamedIn}
use Rattle.notation.proofs.Names.{named, unnamed}
use Rattle.chosen.specs.declared.tongues.Tongue.{Tongue}
use Rattle.chosen.specs.declared.tongues.Tongue.TheVariants.{Routes, Settings}
use Rattle.chosen.specs.Names.{Speaks, name_of}
use Rattle.chosen.proofs.tongues.read_tongue.Goals as goal

-- the table that the code writes out names each language
module _ (a b : Bor (List ℕ)) (ea : a.now ≡ codes "routes ") (eb : b.now ≡ codes "settings ") (bs : List ℕ) where
  abbrev table : List (Bor (List ℕ) × Tongue)
  table = (a, Routes) ∷ (b, Settings) ∷ []

  right : All (λ n. n.0.now ≡ name_of n.1) table
  right = All-from_recursion (λ n. n.0.now ≡ name_of n.1) table (ea, (eb, tt))

  none : IsNamedIn table bs None → Speaks bs None
  none h Routes = unnamed name_of table right bs h 0 (a, Routes) (omega arith)
  none h Settings = unnamed name_of table right bs h 1 (a, Routes) (omega arith)

  names : (r : Option (Parsed Tongue)) → IsNamedIn table bs r → Speaks bs r
  names None h = none h
  names (Some p) h = named name_of table right bs p h

pub returns : goal.returns
returns c = names _ _ refl refl c.args.from.now c.read_name.result c.read_name.ensures
