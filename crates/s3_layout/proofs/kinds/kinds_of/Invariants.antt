use Rattle.std.proofs.Common.{◌≡◌, ◌++◌, drop, map}
use Rattle.s3_meaning.specs.RecordTypes.{types_from, types_of}
use Rattle.s3_layout.specs.Inner.Kinds.{coded, kinds_in}
use Rattle.s3_layout.proofs.kinds.kinds_of.Given as goal

abbrev pub invariant-loop-place : goal.invariant-loop-place
invariant-loop-place l = kinds_in l.file (types_of l.inputs) ≡ map coded l.kinds.items ++ kinds_in l.file (types_from l.current (drop l.place l.inputs))
