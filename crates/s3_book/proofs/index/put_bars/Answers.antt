use Rattle.s3_book.proofs.BarLemmas.{next_bar}
use Rattle.s3_book.proofs.index.put_bars.Goals as goal

pub loop-job-preserved : goal.loop-job-preserved
loop-job-preserved c =
    next_bar c.args.turns c.loop-job.edge c.start_after-start.result c.end-edge.result c.loop-job.job-index c.args.jobs.now _ _ _ _ c.loop-job-test.true c.start_after-start.ensures
    c.in_ok-put_bar.ensures c.end-edge.ensures c.loop-job.invariant
