use Rattle.s3_warnings.proofs.FactLemmas.{entry_more}
use Rattle.s3_warnings.proofs.known.add_all.Goals as goal

pub loop-entry-preserved : goal.loop-entry-preserved
loop-entry-preserved c =
    entry_more c.args.set.now c.loop-entry.set c.add.new.set c.args.entries.now c.loop-entry.entry-index _ c.loop-entry-test.true c.in_ok-add.ensures c.loop-entry.invariant
