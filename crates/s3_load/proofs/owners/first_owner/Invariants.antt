use Rattle.std.proofs.Common.{◌≡◌}
use Rattle.s3_load.proofs.OwnerLemmas.{FreeBelow}
use Rattle.s3_load.proofs.owners.first_owner.Given as goal

abbrev pub invariant-loop-place : goal.invariant-loop-place
invariant-loop-place l = l.first ≡ 0 → FreeBelow l.owners l.initial.start l.place
