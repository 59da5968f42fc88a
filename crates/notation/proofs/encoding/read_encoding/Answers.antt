use Rattle.std.proofs.Common.{◌≡◌, ℕ, List, [], ◌∷◌, codes, Bor, Some, None, Option, refl, arith}
use Rattle.std.specs.List.{All}
use Rattle.std.proofs.lemmas.List.Elements.{All-from_recursion}
use Rattle.notation.specs.declared.encoding.Encoding.{Encoding}
use Rattle.notation.specs.declared.encoding.Encoding.TheVariants.{Utf8, Utf16, Utf32}
use Rattle.notation.specs.declared.parsed.Parsed.{Parsed}
use Rattle.notation.specs.Encodings.{Names, name_of}
use Rattle.notation.specs.Names.{IsNamedIn}
use Rattle.notation.proofs.Names.{named, unnamed}
use Rattle.notation.proofs.encoding.read_encoding.Goals as goal

-- the table that the code writes out names each encoding
module _ (a b c : Bor (List ℕ)) (ea : a.now ≡ codes "utf-8") (eb : b.now ≡ codes "utf-16") (ec : c.now ≡ codes "utf-32") (bs : List ℕ) where
  abbrev table : List (Bor (List ℕ) × Encoding)
  table = (a, Utf8) ∷ (b, Utf16) ∷ (c, Utf32) ∷ []

  right : All (λ n. n.0.now ≡ name_of n.1) table
  right = All-from_recursion (λ n. n.0.now ≡ name_of n.1) table (ea, (eb, (ec, tt)))

  none : IsNamedIn table bs None → Names bs None
  none h Utf8 = unnamed name_of table right bs h 0 (a, Utf8) (omega arith)
  none h Utf16 = unnamed name_of table right bs h 1 (a, Utf8) (omega arith)
  none h Utf32 = unnamed name_of table right bs h 2 (a, Utf8) (omega arith)

  names : (r : Option (Parsed Encoding)) → IsNamedIn table bs r → Names bs r
  names None h = none h
  names (Some p) h = named name_of table right bs p h

pub returns : goal.returns
returns c = names _ _ _ refl refl refl c.args.from.now c.read_name.result c.read_name.ensures
