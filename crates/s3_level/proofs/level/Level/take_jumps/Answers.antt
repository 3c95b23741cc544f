use Rattle.s3_level.proofs.Files.{ready_on}
use Rattle.s3_level.proofs.level.Level.take_jumps.Goals as goal

pub returns-clause-keeps : goal.returns-clause-keeps
returns-clause-keeps c = ready_on c.args.self.now c.in-Some.job c.pass_jumps.new.self c.in-Some.is c.pass_jumps.ensures.place.program c.pass_jumps.ensures.files c.pass_jumps.ensures.place.stands c.pass_jumps.ensures.ready
