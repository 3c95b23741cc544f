use Rattle.std.proofs.Common.{sym, subst, ◌∙◌, Option, Result, IfOk}
use Rattle.s3_cycle.specs.declared.stepper.Stepper.{Stepper}
use Rattle.s3_program.specs.declared.program.Program.{Program}
use Rattle.s3_level.specs.Inner.Library.{BeginsFor, IsFor, Rests}
use Rattle.s3_level.proofs.Library.{restarted}
use Rattle.s3_level.proofs.stocked.Stocked.begin.Goals.{in-Some, in-None}
use Rattle.s3_level.proofs.stocked.Stocked.begin.Goals as goal

pub returns-clause-cycle : goal.returns-clause-cycle
returns-clause-cycle c = elim c.match-take.branch [
  | in-Some w ↦
      let of : IsFor c.self.inside.program w.in-Some.cycle = subst (λ (o : Option Stepper). Rests c.self.inside.program o) (sym c.take.ensures.value ∙ w.in-Some.is) c.self.invariant in
      subst (λ (begun : Result Stepper _). IfOk begun (BeginsFor c.args.self.now c.args.switches c.args.date)) (sym w.result-is)
      (restarted w.restart.result c.args.self.now w.in-Some.cycle c.args.switches c.args.date (subst (λ (program : Program). IsFor program w.in-Some.cycle) c.self.view_is of) w.restart.ensures)
  | in-None w ↦
      subst (λ (begun : Result Stepper _). IfOk begun (BeginsFor c.args.self.now c.args.switches c.args.date)) (sym w.result-is)
      (subst (λ (program : Program). IfOk w.started.result (BeginsFor program c.args.switches c.args.date)) c.self.view_is w.started.ensures)
]
