use Rattle.s3_cycle.specs.declared.progress.Continuation.TheVariants as after
use Rattle.s3_cycle.proofs.AnswerLemmas.{continues_at, head_read}
use Rattle.s3_cycle.proofs.stepper.Stepper.continue_with.Goals as goal

pub returns-in-Head : goal.returns-in-Head
returns-in-Head c = continues_at c.args.self.now _ c.args.then (after.Head c.in-Head.place) c.in-Head.is (head_read c.args.self.now _ c.in-Head.place c.ask_head.ensures)
