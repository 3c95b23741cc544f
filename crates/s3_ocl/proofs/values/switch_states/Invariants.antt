use Rattle.std.proofs.Common.{◌≡◌, ◌-◌, ◌++◌, take, replicate}
use Rattle.std.specs.Prelude.{map}
use Rattle.s3_ocl.specs.declared.values.Switch.TheVariants.{Leave}
use Rattle.s3_ocl.specs.Values.{switch_of}
use Rattle.s3_ocl.proofs.values.switch_states.Given as goal

abbrev pub invariant-loop-place : goal.invariant-loop-place
invariant-loop-place l = l.switches ≡ map switch_of (take l.place l.text) ++ replicate (8 - l.place) Leave
