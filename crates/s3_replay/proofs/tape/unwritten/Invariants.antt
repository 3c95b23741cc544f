-- What follows the parts that are left makes all of the parts of those that are left there.
use Rattle.std.proofs.Common.{◌≡◌, ◌++◌, length, List}
use Rattle.s3_replay.specs.declared.performed.Repeated.{Repeated}
use Rattle.s3_replay.proofs.tape.unwritten.Given as goal

abbrev pub invariant-loop-part : goal.invariant-loop-part
invariant-loop-part l = (more : List Repeated) → l.left ++ more ≡ l.rest → l.written ++ more ≡ l.parts

abbrev pub decreases-loop-part : goal.decreases-loop-part
decreases-loop-part l = length l.left
