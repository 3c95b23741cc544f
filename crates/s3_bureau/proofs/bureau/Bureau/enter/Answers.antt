use Rattle.std.proofs.Common.{ap, ◌∙◌}
use Rattle.s3_bureau.specs.Inner.Held.{State, is_open}
use Rattle.s3_bureau.proofs.Entering.{entered_one, entered_two, laid_out_one, laid_out_two, stopped_one, stopped_two}
use Rattle.s3_bureau.proofs.bureau.Bureau.enter.Goals as goal

pub invariant_of-self : goal.invariant_of-self
invariant_of-self g c = λ is. laid_out_one c.args.entry.action _ c.in-Ok.taken _ _ _ _ _ (c.self.invariant is) c.in-Ok.ensures

pub invariant_of-self-in-Ok-act : goal.invariant_of-self-in-Ok-act
invariant_of-self-in-Ok-act g c = λ is. laid_out_two c.args.entry.action _ c.in-Ok-act.taken _ _ _ _ _ (c.self.invariant is) c.in-Ok-act.ensures

pub returns-in-Ok : goal.returns-in-Ok
returns-in-Ok g c =
    let takes = ap (λ (s : State). is_open s) c.self.view_is ∙ c.requires in
    entered_one c.args.entry.level c.args.entry.action _ c.in-Ok.taken _ _ _ _ c.self.view_is c.in-One.is takes (c.self.invariant takes) c.in-Ok.ensures

pub returns-in-Ok-act : goal.returns-in-Ok-act
returns-in-Ok-act g c =
    let takes = ap (λ (s : State). is_open s) c.self.view_is ∙ c.requires in
    entered_two c.args.entry.level c.args.entry.action _ c.in-Ok-act.taken _ _ _ _ c.self.view_is c.in-Two.is takes (c.self.invariant takes) c.in-Ok-act.ensures

pub returns-in-Err : goal.returns-in-Err
returns-in-Err g c =
    let takes = ap (λ (s : State). is_open s) c.self.view_is ∙ c.requires in
    stopped_one c.args.entry.level c.args.entry.action _ c.in-Err.fault _ _ _ _ c.self.view_is c.in-One.is takes (c.self.invariant takes) c.in-Err.ensures

pub returns-in-Err-act : goal.returns-in-Err-act
returns-in-Err-act g c =
    let takes = ap (λ (s : State). is_open s) c.self.view_is ∙ c.requires in
    stopped_two c.args.entry.level c.args.entry.action _ c.in-Err-act.fault _ _ _ _ c.self.view_is c.in-Two.is takes (c.self.invariant takes) c.in-Err-act.ensures
