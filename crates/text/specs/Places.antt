-- What a change replaces, as an editor gives it. Assumes nothing.
use Rattle.text.specs.declared.places.Position.{Position}
use Rattle.text.specs.declared.places.Between.{Between}

-- from a start position up to an end position
abbrev pub Range : Type 0
Range = Between Position
