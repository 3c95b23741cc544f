use Rattle.std.proofs.Common.{◌≡◌, map}
use Rattle.std.specs.List.{range_with_len}
use Rattle.s3_program.specs.Inner.Starts.{types_of_file}
use Rattle.s3_program.proofs.starting.types_by_file.Given as goal

abbrev pub invariant-loop-file : goal.invariant-loop-file
invariant-loop-file l = map (λ types. types.items) l.types.items ≡ map (types_of_file l.starts) (range_with_len 0 l.file)
