use Rattle.std.proofs.Common.{subst}
use Rattle.s3_cycle.specs.declared.went.Calculated.{Calculated}
use Rattle.s3_cycle.specs.Inner.Calculating.{Misses}
use Rattle.s3_cycle.proofs.ChainingLemmas.{missed_on}
use Rattle.s3_cycle.proofs.stepper.Stepper.chain_missed.Goals as goal

pub returns-in-GoesOn : goal.returns-in-GoesOn
returns-in-GoesOn c =
    let shows = subst (λ (r : Calculated). Misses c.args.self.now c.miss.new.self c.args.missing r) c.in-GoesOn.is c.miss.ensures in
    missed_on c.args.self.now c.miss.new.self c.calculate_on.new.self c.args.missing shows c.calculate_on.ensures

pub returns-in-Waits : goal.returns-in-Waits
returns-in-Waits c = subst (λ (r : Calculated). Misses c.args.self.now c.miss.new.self c.args.missing r) c.in-Waits.is c.miss.ensures
