use Rattle.std.proofs.Common.{◌≡◌, drop}
use Rattle.s3_meaning.specs.Selection.{is_below}
use Rattle.s3_match.proofs.compared.is_below.Given as goal

abbrev pub invariant-loop-place : goal.invariant-loop-place
invariant-loop-place l = is_below l.left l.right ≡ is_below (drop l.place l.left) (drop l.place l.right)
