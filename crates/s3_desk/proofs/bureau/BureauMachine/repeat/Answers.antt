use Rattle.s3_desk.proofs.Operating.{common_kept, never_stopped, repeat_acted, repeat_quiet}
use Rattle.s3_desk.proofs.bureau.BureauMachine.repeat.Goals as goal

pub returns-clause-acted : goal.returns-clause-acted
returns-clause-acted g c =
    repeat_acted c.args.entry _ c.args.self.now c.repeat.new.self c.repeat.result c.repeat.ensures.times c.repeat.ensures.own c.repeat.ensures.other c.repeat.ensures.said c.repeat.ensures.stays c.repeat.ensures.unchanged c.repeat.ensures.header
    c.repeat.ensures.goes_on

pub returns-clause-quiet : goal.returns-clause-quiet
returns-clause-quiet g c = repeat_quiet c.args.entry c.args.self.now c.repeat.new.self c.repeat.result c.repeat.ensures.own c.repeat.ensures.other c.repeat.ensures.said c.repeat.ensures.quiet c.repeat.ensures.header c.repeat.ensures.goes_on

pub returns-clause-not_stopped : goal.returns-clause-not_stopped
returns-clause-not_stopped g c = never_stopped c.args.self.now c.repeat.result c.repeat.ensures.not_before

pub returns-clause-kept : goal.returns-clause-kept
returns-clause-kept g c = λ first kept. common_kept c.args.entry.level first c.args.self.now c.repeat.new.self c.repeat.ensures.unchanged c.repeat.ensures.header kept
