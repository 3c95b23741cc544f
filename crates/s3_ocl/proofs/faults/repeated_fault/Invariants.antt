use Rattle.std.proofs.Common.{◌≡◌, take}
use Rattle.std.specs.List.{flat_map}
use Rattle.s3_ocl.specs.Faults.{first_fault, again_faults, file_parameters}
use Rattle.s3_ocl.proofs.faults.repeated_fault.Given as goal

abbrev pub invariant-loop-parameter : goal.invariant-loop-parameter
invariant-loop-parameter l = l.fault ≡ first_fault (flat_map (again_faults l.pieces) (take l.parameter-index file_parameters))
