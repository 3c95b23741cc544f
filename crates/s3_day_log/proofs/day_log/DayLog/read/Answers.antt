use Rattle.std.proofs.Common.{Some, option_map, ap, sym, ◌∙◌, true, false}
use Rattle.s3_day_log.specs.Inner.Events.{day_of, said_of}
use Rattle.s3_day_log.specs.Inner.Logged.{begun_by}
use Rattle.s3_day_log.proofs.LogLemmas.{day_begun, none_begun, not_begun, other_begun, read_after_day, sound_or_none}
use Rattle.s3_day_log.proofs.day_log.DayLog.read.Goals as goal

pub returns-in_default : goal.returns-in_default
returns-in_default c = none_begun c.args.text.now c.in_default.ensures.cases

pub returns-in_default-2 : goal.returns-in_default-2
returns-in_default-2 c =
    other_begun c.args.text.now (c.in-Some.first, c.in-Some.rest) c.in-Some.ensures.cases
    (ap begun_by (sym c.in_ok-event.ensures ∙ ap (option_map said_of) c.in_default-2.is))

pub returns-in_default-event : goal.returns-in_default-event
returns-in_default-event c =
    other_begun c.args.text.now (c.in-Some.first, c.in-Some.rest) c.in-Some.ensures.cases
    (ap begun_by (sym c.in_ok-event.ensures ∙ ap (option_map said_of) c.in-Some-2.is) ∙ not_begun c.in-Some-2.event c.in_default-event.not-Begin)

pub returns-then-not-is_sound : goal.returns-then-not-is_sound
returns-then-not-is_sound c =
    other_begun c.args.text.now (c.in-Some.first, c.in-Some.rest) c.in-Some.ensures.cases
    (ap begun_by (sym c.in_ok-event.ensures ∙ ap (option_map said_of) (c.in-Some-2.is ∙ ap Some c.in-Begin.is)) ∙ sound_or_none (day_of c.in-Begin.day) false (sym c.is_sound.ensures ∙ c.if-not-is_sound.true))

pub returns : goal.returns
returns c =
    read_after_day c.args.text.now c.in-Some.rest.now (day_of c.in-Begin.day) c.read_after.result
    (day_begun c.args.text.now (c.in-Some.first, c.in-Some.rest) (day_of c.in-Begin.day) c.in-Some.ensures.cases
    (ap begun_by (sym c.in_ok-event.ensures ∙ ap (option_map said_of) (c.in-Some-2.is ∙ ap Some c.in-Begin.is)) ∙ sound_or_none (day_of c.in-Begin.day) true (sym c.is_sound.ensures ∙ c.if-not-is_sound.false)))
    c.read_after.ensures
