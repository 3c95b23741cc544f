-- No parameter of the pieces passed so far is given again.
use Rattle.std.proofs.Common.{◌≡◌, length}
use Rattle.s3_ocl.specs.Inner.Steps.{gives_twice}
use Rattle.s3_ocl.proofs.faults.gives_twice.Given as goal

abbrev pub invariant-loop-piece : goal.invariant-loop-piece
invariant-loop-piece l = gives_twice l.rest ≡ gives_twice l.pieces

abbrev pub decreases-loop-piece : goal.decreases-loop-piece
decreases-loop-piece l = length l.rest
