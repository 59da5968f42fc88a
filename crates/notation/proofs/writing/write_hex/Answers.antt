use Rattle.std.proofs.Common.{append_assoc, rules}
use Rattle.notation.proofs.writing.write_hex.Goals as goal

pub returns : goal.returns
returns c = search (rules, append_assoc)
