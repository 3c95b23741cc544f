use Rattle.s3_desk.proofs.Operating.{common_kept, never_stopped, step_acted, step_quiet}
use Rattle.s3_desk.proofs.bureau.BureauMachine.step.Goals as goal

pub returns-clause-acted : goal.returns-clause-acted
returns-clause-acted g c =
    step_acted c.args.entry c.args.self.now c.step.new.self c.step.result c.step.ensures.own c.step.ensures.other c.step.ensures.said c.step.ensures.stays c.step.ensures.unchanged c.step.ensures.header c.step.ensures.goes_on

pub returns-clause-quiet : goal.returns-clause-quiet
returns-clause-quiet g c = step_quiet c.args.entry c.args.self.now c.step.new.self c.step.result c.step.ensures.own c.step.ensures.other c.step.ensures.said c.step.ensures.quiet c.step.ensures.header c.step.ensures.goes_on

pub returns-clause-not_stopped : goal.returns-clause-not_stopped
returns-clause-not_stopped g c = never_stopped c.args.self.now c.step.result c.step.ensures.not_before

pub returns-clause-kept : goal.returns-clause-kept
returns-clause-kept g c = λ first kept. common_kept c.args.entry.level first c.args.self.now c.step.new.self c.step.ensures.unchanged c.step.ensures.header kept
