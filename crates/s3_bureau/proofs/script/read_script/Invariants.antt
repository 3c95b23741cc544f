-- The commands so far, and the lines that are left.
use Rattle.std.proofs.Common.{length}
use Rattle.s3_bureau.proofs.Scripts.{ReadSoFar}
use Rattle.s3_bureau.proofs.script.read_script.Given as goal

abbrev pub invariant-loop-line : goal.invariant-loop-line
invariant-loop-line l = ReadSoFar l.text l.commands.items l.passed l.rest

abbrev pub decreases-loop-line : goal.decreases-loop-line
decreases-loop-line l = length l.rest
