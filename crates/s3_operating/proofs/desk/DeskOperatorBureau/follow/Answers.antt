use Rattle.s3_operating.proofs.Replying.{follows}
use Rattle.s3_operating.proofs.desk.DeskOperatorBureau.follow.Goals as goal

pub returns : goal.returns
returns g c = follows c.follow_entries.result _ _ _ c.follow_entries.ensures.sources c.follow_entries.ensures.read c.follow_entries.ensures.logs
