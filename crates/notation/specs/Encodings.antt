-- The names of the position encodings. Assumes nothing.
use Rattle.std.specs.Prelude.{◌≡◌, ℕ, List, ◌++◌, Some, None, codes, Option, ◌≢◌}
use Rattle.notation.specs.declared.encoding.Encoding.{Encoding}
use Rattle.notation.specs.declared.encoding.Encoding.TheVariants.{Utf8, Utf16, Utf32}
use Rattle.notation.specs.declared.parsed.Parsed.{Parsed}

abbrev pub name_of : Encoding → List ℕ
name_of Utf8 = codes "utf-8"
name_of Utf16 = codes "utf-16"
name_of Utf32 = codes "utf-32"

-- the list is the encoding's name and what follows it; none where it begins with no name
abbrev pub Names : List ℕ → Option (Parsed Encoding) → Type 0
Names bs None = (e : Encoding) (rest : List ℕ) → bs ≢ name_of e ++ rest
Names bs (Some n) = bs ≡ name_of n.value ++ n.rest.now
