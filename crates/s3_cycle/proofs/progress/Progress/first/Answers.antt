use Rattle.s3_cycle.proofs.FirstLemmas.{begins_progress}
use Rattle.s3_cycle.proofs.progress.Progress.first.Goals as goal

pub returns : goal.returns
returns c = begins_progress c.args.program.now c.args.switches _ c.in_ok-first.ensures.sound c.in_ok-first.ensures.reading
