use Rattle.std.proofs.Common.{refl, rules, sym, ap, subst}
use Rattle.s3_meaning.specs.Requests.{Answer}
use Rattle.s3_cycle.specs.Inner.Requests.{answer_of}
use Rattle.s3_cycle.specs.Inner.Following.{Resumes}
use Rattle.s3_solo.specs.Serving.{card_answer}
use Rattle.s3_level.proofs.Fitting.{card_fits, nothing_fits}
use Rattle.s3_level.proofs.OfLines.{job_stays}
use Rattle.s3_level.proofs.job.OpenJob.read_card.Goals as goal

pub resume-requires : goal.resume-requires
resume-requires c = card_fits c.args.self.now.cycle c.in-Some.card c.requires (search rules)

pub resume-requires-in-None : goal.resume-requires-in-None
resume-requires-in-None c = nothing_fits c.args.self.now.cycle c.requires

pub returns-in-Some-clause-resumes : goal.returns-in-Some-clause-resumes
unfolding answer_of
returns-in-Some-clause-resumes c = subst (λ (a : Answer). Resumes c.args.self.now.cycle c.resume.new.self a) (sym (ap card_answer c.in-Some.ensures.1)) c.resume.ensures

pub returns-in-None-clause-resumes : goal.returns-in-None-clause-resumes
unfolding answer_of
returns-in-None-clause-resumes c = subst (λ (a : Answer). Resumes c.args.self.now.cycle c.resume-in-None.new.self a) (sym (ap card_answer c.in-None.ensures)) c.resume-in-None.ensures

pub returns-in-Some-clause-ready : goal.returns-in-Some-clause-ready
returns-in-Some-clause-ready c = λ ready. job_stays c.args.self.now.files.level c.args.self.now _ ready refl refl (λ source stands. (c.resume.ensures source stands).0)

pub returns-in-None-clause-ready : goal.returns-in-None-clause-ready
returns-in-None-clause-ready c = λ ready. job_stays c.args.self.now.files.level c.args.self.now _ ready refl refl (λ source stands. (c.resume-in-None.ensures source stands).0)
