use Rattle.s3_cycle.proofs.PrintLemmas.{prints}
use Rattle.s3_cycle.proofs.stepper.Stepper.print.Goals as goal

pub returns : goal.returns
returns c = λ line is.
    prints c.args.self.now c.move_carriage.new.self _ line c.args.spacing.now c.print-printed.result.place c.print-printed.result.behind c.args.walk c.args.next c.requires.running c.requires.walk
    is c.print-printed.ensures.there c.print-printed.ensures.behind c.move_carriage.ensures c.requires.line c.wait.ensures
