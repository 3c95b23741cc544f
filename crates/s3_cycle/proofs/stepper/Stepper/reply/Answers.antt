use Rattle.s3_cycle.proofs.AnswerLemmas.{reply_zero, reply_two, reply_else}
use Rattle.s3_cycle.proofs.stepper.Stepper.reply.Goals as goal

pub returns-then-digit-eq0 : goal.returns-then-digit-eq0
returns-then-digit-eq0 c = reply_zero c.args.self.now _ c.args.then c.args.digit c.if-digit-eq0.true c.continue_with.ensures

pub returns-then-digit-eq2 : goal.returns-then-digit-eq2
returns-then-digit-eq2 c = reply_two c.args.self.now _ c.args.then c.args.digit c.if-digit-eq2.true c.go_to_totals.ensures

pub returns-else-digit-eq2 : goal.returns-else-digit-eq2
returns-else-digit-eq2 c = reply_else c.args.self.now _ c.args.then c.args.digit c.if-digit-eq0.false c.if-digit-eq2.false c.end.ensures
