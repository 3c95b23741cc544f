use Rattle.std.proofs.Common.{◌≡◌, [], take}
use Rattle.s3_load.specs.Inner.Owners.{AreOwners}
use Rattle.s3_load.proofs.ColumnLemmas.{ApartBelow}
use Rattle.s3_load.proofs.columns.own_in_order.Given as goal

abbrev pub invariant-loop-place : goal.invariant-loop-place
invariant-loop-place l = record {
  apart : l.faults.items ≡ [] → ApartBelow l.named l.place;
  before : l.faults.items ≡ [] → l.initial.faults.items ≡ [];
  owners : AreOwners (take l.place l.named) l.owners;
}
