use Rattle.std.proofs.Common.{ap}
use Rattle.s3_labels.specs.Inner.Areas.{Areas}
use Rattle.s3_desk.proofs.Operating.{common_read, look_quiet, never_stopped}
use Rattle.s3_desk.proofs.bureau.BureauMachine.look.Goals as goal

pub returns-clause-quiet : goal.returns-clause-quiet
returns-clause-quiet g c = look_quiet c.args.self.now c.look.new.bureau c.look.result c.look.ensures.held c.look.ensures.areas c.look.ensures.keeps c.look.ensures.goes_on

pub returns-clause-not_stopped : goal.returns-clause-not_stopped
returns-clause-not_stopped g c = never_stopped c.args.self.now c.look.result c.look.ensures.not_before

pub returns-clause-kept : goal.returns-clause-kept
returns-clause-kept g c = λ first kept. common_read first c.args.self.now c.look.new.bureau c.look.ensures.keeps (ap (λ (a : Areas). a.header) c.look.ensures.areas) kept
