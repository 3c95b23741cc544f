use Rattle.std.proofs.Common.{◌≡◌, drop}
use Rattle.s3_program.specs.Inner.Starts.{fields_begin}
use Rattle.s3_program.proofs.starting.first_behind.Given as goal

abbrev pub invariant-loop-place : goal.invariant-loop-place
invariant-loop-place l = fields_begin l.from (drop l.from l.inputs) ≡ fields_begin l.place (drop l.place l.inputs)
