use Rattle.s3_cycle.proofs.FirstLemmas.{begins_progress}
use Rattle.s3_cycle.proofs.progress.Progress.begin_again.Goals as goal

pub returns : goal.returns
returns c = begins_progress c.args.program.now c.args.switches _ c.begin_again.ensures.sound c.begin_again.ensures.reading
