use Rattle.s3_program.proofs.CallLemmas.{room_left}
use Rattle.s3_program.proofs.laws.calls_go_eight_deep.Goals as goal

pub returns : goal.returns
returns c = room_left
