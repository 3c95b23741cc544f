use Rattle.std.proofs.Common.{refl, sym, subst, ◌∙◌, ap, replicate}
use Rattle.std.specs.Prelude.{None}
use Rattle.s3_operations.specs.Inner.Beginning.{Begins}
use Rattle.s3_cycle.specs.declared.state.State.{State}
use Rattle.s3_cycle.proofs.FirstLemmas.{begins_state}
use Rattle.s3_cycle.proofs.state.State.begin_again.Goals as goal

pub returns : goal.returns
returns c =
    begins_state c.args.program.now c.args.switches c.args.date _
    (subst (λ (state : State). Begins c.args.program.now c.args.switches c.args.date state.values) (sym c.forget_records.ensures.alone) c.begin_again.ensures)
    (c.forget_records.ensures.records ∙ ap (λ n. replicate n None) c.requires.sound.current) c.forget.ensures refl refl refl
