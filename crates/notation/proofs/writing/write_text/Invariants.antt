use Rattle.std.proofs.Common.{◌≡◌, ◌++◌, take, string_bytes}
use Rattle.std.specs.List.{flat_map}
use Rattle.notation.specs.Texts.{spelled}
use Rattle.notation.proofs.writing.write_text.Given as goal

abbrev pub invariant-loop-byte : goal.invariant-loop-byte
invariant-loop-byte l = string_bytes l.into ≡ string_bytes l.initial.into ++ flat_map spelled (take l.byte-index l.bytes)
