use Rattle.s3_level.proofs.Files.{ready_on}
use Rattle.s3_level.proofs.level.Level.take_card.Goals as goal

pub returns-in-Some-clause-keeps : goal.returns-in-Some-clause-keeps
returns-in-Some-clause-keeps c = ready_on c.args.self.now c.in-Some.job c.read_card.new.self c.in-Some.is c.read_card.ensures.program c.read_card.ensures.files (λ source stands. (c.read_card.ensures.resumes source stands).0) c.read_card.ensures.ready
