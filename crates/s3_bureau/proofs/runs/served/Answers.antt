use Rattle.std.proofs.Common.{◌∙◌}
use Rattle.s3_bureau.specs.Inner.Held.{held_by}
use Rattle.s3_bureau.proofs.Performing.{sectors_left, sectors_stopped}
use Rattle.s3_bureau.proofs.Running.{files_served, halts_served, slots_served}
use Rattle.s3_bureau.proofs.runs.served.Goals as goal

pub returns-clause-texts : goal.returns-clause-texts
returns-clause-texts g c =
    halts_served c.args.refusal1 c.args.refusal2 _ (held_by c.args.bureau.now) (held_by c.perform.new.bureau) c.finish_halts.new.bureau c.finish_halts.result (λ halts. halts.0.items) (λ halts. halts.1.items)
    c.in_ok-perform.ensures.worlds c.finish_halts.ensures.closes c.finish_halts.ensures.one c.finish_halts.ensures.two

pub returns-clause-leaves : goal.returns-clause-leaves
returns-clause-leaves g c = sectors_left _ _ _ _ c.in_ok-perform.ensures.leaves c.finish_halts.ensures.unchanged c.finish_halts.ensures.rest

pub returns-in_err-perform-clause-leaves : goal.returns-in_err-perform-clause-leaves
returns-in_err-perform-clause-leaves g c = sectors_stopped _ _ _ c.in_err-perform.ensures.leaves

pub returns-clause-files : goal.returns-clause-files
returns-clause-files g c = files_served _ _ c.perform.new.bureau c.finish_halts.new.bureau c.finish_halts.result c.in_ok-perform.ensures.worlds c.finish_halts.ensures.closes

pub returns-clause-slots : goal.returns-clause-slots
returns-clause-slots g c =
    slots_served _ _ c.perform.new.bureau c.finish_halts.new.bureau c.finish_halts.result c.in_ok-perform.ensures.worlds c.in_ok-perform.ensures.said c.finish_halts.ensures.closes c.finish_halts.ensures.mounts
    c.finish_halts.ensures.untangled (c.finish_halts.ensures.header ∙ c.in_ok-perform.ensures.leaves.header)
