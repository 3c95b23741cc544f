use Rattle.std.proofs.Common.{subst, sym}
use Rattle.s3_cycle.specs.declared.stepper.Stepper.{Stepper}
use Rattle.s3_cycle.specs.Inner.Starting.{Starts}
use Rattle.s3_cycle.proofs.FollowLemmas.{begins}
use Rattle.s3_cycle.proofs.cycle.Cycle.start.Goals as goal

pub returns : goal.returns
returns c =
    let P : Stepper → Type 0 = λ run. Starts c.args.program c.args.switches c.args.date run in
    begins c.args.program c.args.switches c.args.date c.in_ok-new.field-0.value (subst P (sym c.in_ok-new.ensures.ok) c.in_ok-start.ensures)
