use Rattle.s3_level.proofs.Library.{copy_started}
use Rattle.s3_level.proofs.stocked.started.Goals as goal

pub returns : goal.returns
returns c = copy_started c.start.result c.args.program.now c.in_ok-copy.field-0 c.args.switches c.args.date c.in_ok-copy.ensures.parts c.start.ensures
