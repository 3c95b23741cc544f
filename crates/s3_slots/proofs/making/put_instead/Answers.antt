use Rattle.std.proofs.Common.{sym, ap, ◌∙◌}
use Rattle.s3_slots.specs.Making.{put as put_spec}
use Rattle.s3_slots.specs.Placement.{free_slot}
use Rattle.s3_slots.specs.declared.slot.Slot.TheVariants.{Free, Sound}
use Rattle.s3_slots.proofs.Makes.{present_is, present_somewhere, dropped_is, put_back}
use Rattle.s3_slots.proofs.making.put_instead.Goals as goal

pub returns-in-None-clause-err : goal.returns-in-None-clause-err
returns-in-None-clause-err c = absurd (present_somewhere _ _ _ c.requires.old (sym c.in-None.ensures.place))

pub returns-in-Ok-clause-ok : goal.returns-in-Ok-clause-ok
returns-in-Ok-clause-ok c =
    ap (put_spec c.args.format c.args.region c.args.new.now) (dropped_is _ _ _ c.in-Some.place c.requires.old (sym c.in-Some.ensures.place)) ∙ c.in-Ok.ensures.ok

pub returns-in-Err-clause-err : goal.returns-in-Err-clause-err
returns-in-Err-clause-err c =
    ap (put_spec c.args.format c.args.region c.args.new.now) (dropped_is _ _ _ c.in-Some.place c.requires.old (sym c.in-Some.ensures.place)) ∙ c.in-Err.ensures.err

pub returns-in-Err-clause-same : goal.returns-in-Err-clause-same
returns-in-Err-clause-same c =
    rw c.in-Err.ensures.same (put_back c.args.slots.now c.in-Some.place (Sound c.args.old) Free (present_is _ _ _ c.in-Some.place c.requires.old (sym c.in-Some.ensures.place)))

pub returns-in-Ok-clause-slot : goal.returns-in-Ok-clause-slot
returns-in-Ok-clause-slot c = ap free_slot (dropped_is _ _ _ c.in-Some.place c.requires.old (sym c.in-Some.ensures.place)) ∙ c.in-Ok.ensures.slot
