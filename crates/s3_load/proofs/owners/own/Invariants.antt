use Rattle.std.proofs.Common.{◌≡◌, ℕ, ◌||◌}
use Rattle.s3_load.specs.Inner.Owners.{is_owned}
use Rattle.s3_load.proofs.OwnerLemmas.{is_between}
use Rattle.s3_load.proofs.owners.own.Given as goal

abbrev pub invariant-loop-place : goal.invariant-loop-place
invariant-loop-place l = (k : ℕ) → is_owned l.owners k ≡ (is_owned l.initial.owners k || is_between l.initial.start l.place k)
