-- Words of 32 bits, most significant byte first: 4 bits of kind and 28 of value. Assumes nothing.
use Rattle.std.specs.Prelude.{ℕ, ◌+◌, ◌*◌, ◌/◌, ◌%◌, ◌^◌, ◌<◌, cond, ◌&&◌, List, [], ◌∷◌, ◌++◌, length, take, drop, Some, None, Option, ◌==◌, nat_le, slice_index}
use Rattle.wire.specs.declared.words.Word.{Word}
use Rattle.wire.specs.declared.words.Kind.{Kind}
use Rattle.wire.specs.declared.words.Kind.TheVariants.{Message, Opening, Version, Line, Character, Request, Result, TextLength}

-- the number of each kind
abbrev pub kind_number : Kind → ℕ
kind_number Message = 1
kind_number Opening = 2
kind_number Version = 3
kind_number Line = 4
kind_number Character = 5
kind_number Request = 6
kind_number Result = 7
kind_number TextLength = 8

-- a word of a kind
abbrev pub worded : Kind → ℕ → Word
worded k v = record { 0 = kind_number k; 1 = v }

-- the 32 bits at a place
abbrev pub word_at : List ℕ → ℕ → ℕ
word_at bs i = slice_index bs i * 16777216 + slice_index bs (i + 1) * 65536 + slice_index bs (i + 2) * 256 + slice_index bs (i + 3)

abbrev pub bytes_of : ℕ → List ℕ
bytes_of w = (w / 16777216 % 256) ∷ (w / 65536 % 256) ∷ (w / 256 % 256) ∷ (w % 256) ∷ []

-- the four bytes of a word
unfoldable pub word_of : ℕ → ℕ → List ℕ
word_of kind value = bytes_of (kind * 268435456 + value)

-- the value of the word at a place: it is there, is of that kind, and lies between low and high
unfoldable pub field_at : List ℕ → ℕ → ℕ → ℕ → ℕ → Option ℕ
field_at bs i kind low high =
    cond (nat_le (i + 4) (length bs))
    (cond (word_at bs i / 268435456 == kind && (nat_le low (word_at bs i % 268435456) && nat_le (word_at bs i % 268435456) high)) (Some (word_at bs i % 268435456)) None)
    None

-- a list with the entries of new written over it from a place on
abbrev pub over : List ℕ → ℕ → List ℕ → List ℕ
over bs i new = take i bs ++ (new ++ drop (i + length new) bs)

-- the bytes of words one behind another
abbrev pub words : List Word → List ℕ
words [] = []
words (w ∷ ws) = word_of w.0 w.1 ++ words ws

-- a word that 4 and 28 bits hold
abbrev pub Fitting : Word → Type 0
Fitting w = (w.0 < 16) × (w.1 < 2 ^ 28)

abbrev pub Octets : List ℕ → Type 0
Octets bs = (i : ℕ) → slice_index bs i < 256
