use Rattle.s3_load.specs.Inner.Owners.{is_owned}
use Rattle.s3_load.proofs.OwnerLemmas.{AllBelow}
use Rattle.s3_load.proofs.owners.is_owned_whole.Given as goal

abbrev pub invariant-loop-place : goal.invariant-loop-place
invariant-loop-place l = AllBelow (is_owned l.owners) l.initial.start l.place
