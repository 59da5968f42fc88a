use Rattle.std.proofs.Common.{◌≡◌, drop}
use Rattle.scanner.specs.Scan.{first, next_by}
use Rattle.scanner.proofs.scanning.scan.Given as goal

abbrev pub invariant-loop-at : goal.invariant-loop-at
invariant-loop-at g l =
    let read = g.R.Reader.reading l.reader in
    first read l.clear l.«at» (drop l.«at» l.text) ≡ next_by read l.text l.initial.«at»
