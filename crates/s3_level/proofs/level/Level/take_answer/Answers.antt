use Rattle.s3_cycle.specs.Inner.Requests.{answer_of}
use Rattle.s3_level.proofs.Files.{ready_on}
use Rattle.s3_level.proofs.Running.{answer_taken}
use Rattle.s3_level.proofs.level.Level.take_answer.Goals as goal

pub returns-in-Some-clause-world : goal.returns-in-Some-clause-world
returns-in-Some-clause-world c = λ s. answer_taken s c.args.self.now c.in-Some.job c.resume.new.self (answer_of c.args.answer) c.in-Some.is c.resume.ensures.place c.resume.ensures.files c.resume.ensures.resumes

pub returns-in-Some-clause-keeps : goal.returns-in-Some-clause-keeps
returns-in-Some-clause-keeps c = ready_on c.args.self.now c.in-Some.job c.resume.new.self c.in-Some.is c.resume.ensures.place.program c.resume.ensures.files c.resume.ensures.place.stands c.resume.ensures.ready
