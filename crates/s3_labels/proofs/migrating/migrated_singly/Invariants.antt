use Rattle.s3_labels.proofs.Copies.{IsMigrating}
use Rattle.s3_labels.proofs.migrating.migrated_singly.Given as goal

abbrev pub invariant-loop-at : goal.invariant-loop-at
invariant-loop-at l = IsMigrating l.bytes l.at l.new.items
