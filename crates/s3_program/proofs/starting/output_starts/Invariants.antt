use Rattle.std.proofs.Common.{◌≡◌, ◌++◌, drop}
use Rattle.s3_program.specs.Inner.Starts.{output_starts_from}
use Rattle.s3_program.proofs.starting.output_starts.Given as goal

abbrev pub invariant-loop-place : goal.invariant-loop-place
invariant-loop-place l = l.starts.items ++ output_starts_from l.file l.place (drop l.place l.outputs) ≡ output_starts_from l.files 0 l.outputs
