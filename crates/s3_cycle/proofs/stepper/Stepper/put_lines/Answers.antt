use Rattle.s3_cycle.proofs.LineLemmas.{due_within}
use Rattle.s3_cycle.proofs.stepper.Stepper.put_lines.Goals as goal

pub number-number-requires-clause-within : goal.number-number-requires-clause-within
number-number-requires-clause-within c = due_within c.args.self.now c.args.walk c.in-Some.place c.in-Some.ensures.found.0
