use Rattle.std.proofs.Common.{take}
use Rattle.s3_match.specs.Inner.Reading.{ArePlacesOf}
use Rattle.s3_match.proofs.reading.type_places.Given as goal

abbrev pub invariant-loop-line : goal.invariant-loop-line
invariant-loop-line l = ArePlacesOf (take l.line-index l.program.inputs.items) l.places.items
