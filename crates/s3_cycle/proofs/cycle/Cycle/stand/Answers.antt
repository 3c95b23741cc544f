use Rattle.std.proofs.Common.{ap, subst, sym, ◌∙◌}
use Rattle.s3_cycle.specs.declared.stepper.Stepper.{Stepper}
use Rattle.s3_cycle.specs.declared.stand.Stand.{Stand}
use Rattle.s3_cycle.specs.Inner.Standing.{AsksAt, stand_of}
use Rattle.s3_cycle.proofs.StandLaw.{asks_at}
use Rattle.s3_cycle.proofs.cycle.Cycle.stand.Goals as goal

pub returns-clause-card : goal.returns-clause-card
returns-clause-card c = λ source.
    let inside : Stepper = c.self.inside.stepper.value in
    let P : Stepper → Type 0 = λ k. AsksAt source k c.stand.result in
    let Q : Stand → Type 0 = λ stand. AsksAt source inside stand in
    subst P c.self.view_is (subst Q (sym (c.stand.ensures ∙ ap stand_of c.deref.ensures)) (asks_at source inside c.self.invariant))
