use Rattle.std.proofs.lemmas.Option.{slice_get-get_or}
use Rattle.s3_labels.proofs.Copies.{migrating_on}
use Rattle.s3_labels.proofs.migrating.migrated_singly.Goals as goal

pub loop-at-preserved : goal.loop-at-preserved
loop-at-preserved c =
    rw (c.in_ok-push.ensures.items, c.migrated_byte.ensures) (migrating_on c.args.bytes.now c.loop-at.at _ c.loop-at.new.items (slice_get-get_or c.args.bytes.now c.loop-at.at _ c.loop-at-test.true) c.loop-at.invariant)
