use Rattle.std.proofs.Common.{rules, false, List, Some, ◌∙◌, subst}
use Rattle.s3_cards.specs.declared.levels.LevelId.{LevelId}
use Rattle.s3_cards.specs.declared.levels.LevelId.TheVariants.{One, Two}
use Rattle.s3_solo.specs.World.{World}
use Rattle.s3_bureau.specs.declared.entry.Entry.{Entry}
use Rattle.s3_bureau.specs.Inner.Held.{HoldsFor, State, held_by}
use Rattle.s3_bureau.specs.Inner.Unwritten.{texts_at}
use Rattle.s3_bureau.proofs.Running.{files_stand, halts_shown, slots_stand, texts_shown}
use Rattle.s3_desk.specs.Inner.Desk.{HasReached, HasReplied, IsPastReply}
use Rattle.s3_desk.specs.Inner.Operated.{IsAfter}
use Rattle.s3_desk.specs.Inner.Rounds.{SitsFrom}
use Rattle.s3_desk.proofs.Days.{after_given, common_left, common_none, idle_left, lines_left, performs_given}
use Rattle.s3_desk.proofs.day.operate_to_end.Goals as goal

pub returns-clause-texts : goal.returns-clause-texts
returns-clause-texts g c =
    let after : IsAfter c.args.bureau.now c.operate.new.performed c.operate.new.bureau = c.in_ok-ends.ensures.after c.args.bureau.now (after_given c.args.bureau.now c.args.performed.now c.requires.none c.requires.takes_more) in
    texts_shown c.args.refusal1 c.args.refusal2 c.operate.new.performed (held_by c.args.bureau.now) (held_by c.operate.new.bureau) (held_by c.finish_halts.new.bureau)
    (texts_at c.finish_halts.new.bureau c.in_ok-halts.halts.0.items c.in_ok-halts.halts.1.items) after.performs c.in_ok-halts.ensures.closes
    (halts_shown One c.finish_halts.new.bureau c.args.refusal1 c.in_ok-halts.halts.0.items c.in_ok-halts.ensures.one)
    (halts_shown Two c.finish_halts.new.bureau c.args.refusal2 c.in_ok-halts.halts.1.items c.in_ok-halts.ensures.two)

pub returns-clause-lines : goal.returns-clause-lines
returns-clause-lines g c =
    let after : IsAfter c.args.bureau.now c.operate.new.performed c.operate.new.bureau = c.in_ok-ends.ensures.after c.args.bureau.now (after_given c.args.bureau.now c.args.performed.now c.requires.none c.requires.takes_more) in
    lines_left c.args.refusal1 c.operate.new.performed c.args.bureau.now c.operate.new.bureau c.finish_halts.new.bureau c.in_ok-halts.halts.0.items after.performs c.in_ok-halts.ensures.closes c.in_ok-halts.ensures.one

pub returns-clause-files : goal.returns-clause-files
returns-clause-files g c =
    let after : IsAfter c.args.bureau.now c.operate.new.performed c.operate.new.bureau = c.in_ok-ends.ensures.after c.args.bureau.now (after_given c.args.bureau.now c.args.performed.now c.requires.none c.requires.takes_more) in
    files_stand c.operate.new.performed c.args.bureau.now c.operate.new.bureau c.finish_halts.new.bureau after.performs c.in_ok-halts.ensures.closes

pub returns-clause-slots : goal.returns-clause-slots
returns-clause-slots g c =
    let after : IsAfter c.args.bureau.now c.operate.new.performed c.operate.new.bureau = c.in_ok-ends.ensures.after c.args.bureau.now (after_given c.args.bureau.now c.args.performed.now c.requires.none c.requires.takes_more) in
    slots_stand c.operate.new.performed c.args.bureau.now c.operate.new.bureau c.finish_halts.new.bureau after.performs after.says c.in_ok-halts.ensures.closes c.in_ok-halts.ensures.mounts c.in_ok-halts.ensures.untangled (c.in_ok-halts.ensures.header ∙ after.header)

pub returns-clause-idle : goal.returns-clause-idle
returns-clause-idle g c =
    let after : IsAfter c.args.bureau.now c.operate.new.performed c.operate.new.bureau = c.in_ok-ends.ensures.after c.args.bureau.now (after_given c.args.bureau.now c.args.performed.now c.requires.none c.requires.takes_more) in
    λ level w none held rest. idle_left c.args.bureau.now c.operate.new.bureau c.finish_halts.new.bureau c.operate.new.performed level w after c.in_ok-halts.ensures.rest none held rest

pub returns-clause-common : goal.returns-clause-common
returns-clause-common g c =
    common_left c.args.bureau.now c.operate.new.bureau c.finish_halts.new.bureau (c.in_ok-ends.ensures.kept c.args.bureau.now (common_none c.args.bureau.now)) c.in_ok-halts.ensures.unchanged

pub returns-in_err-ends-clause-common : goal.returns-in_err-ends-clause-common
returns-in_err-ends-clause-common g c =
    (c.in_err-ends.ensures.kept c.args.bureau.now (common_none c.args.bureau.now)).common

pub returns-in_err-halts-clause-common : goal.returns-in_err-halts-clause-common
returns-in_err-halts-clause-common g c =
    common_left c.args.bureau.now c.operate.new.bureau c.finish_halts.new.bureau (c.in_ok-ends.ensures.kept c.args.bureau.now (common_none c.args.bureau.now)) c.in_err-halts.ensures.unchanged

pub returns-clause-one : goal.returns-clause-one
returns-clause-one g c =
    c.in_ok-ends.ensures.ends.one c.args.bureau.now (performs_given c.args.bureau.now c.args.performed.now c.requires.none)

pub returns-clause-two : goal.returns-clause-two
returns-clause-two g c =
    c.in_ok-ends.ensures.ends.two c.args.bureau.now (performs_given c.args.bureau.now c.args.performed.now c.requires.none)

pub returns-clause-one_cut : goal.returns-clause-one_cut
returns-clause-one_cut g c =
    λ cut. subst (λ (was : List Entry). HasReached One was c.operate.new.performed c.args.bounds) c.requires.none (c.in_ok-ends.ensures.one_cut cut)

pub returns-clause-two_cut : goal.returns-clause-two_cut
returns-clause-two_cut g c =
    λ cut. subst (λ (was : List Entry). HasReached Two was c.operate.new.performed c.args.bounds) c.requires.none (c.in_ok-ends.ensures.two_cut cut)

pub returns-clause-one_out : goal.returns-clause-one_out
returns-clause-one_out g c =
    λ out. subst (λ (was : List Entry). HasReplied One was c.operate.new.performed) c.requires.none (c.in_ok-ends.ensures.one_out out)

pub returns-clause-two_out : goal.returns-clause-two_out
returns-clause-two_out g c =
    λ out. subst (λ (was : List Entry). HasReplied Two was c.operate.new.performed) c.requires.none (c.in_ok-ends.ensures.two_out out)

pub returns-clause-sits : goal.returns-clause-sits
returns-clause-sits g c =
    subst (λ (was : List Entry). SitsFrom (λ (b : State) (level : LevelId) (w : World). HoldsFor level b w) g.O.Operator.meets (λ level entries. IsPastReply level was entries) (λ level entries. HasReached level was entries c.args.bounds) was c.operate.new.performed c.args.bureau.now c.args.operator.now
    c.operate.new.operator false false false false (Some c.in_ok-ends.ends)) c.requires.none c.in_ok-ends.ensures.sits

pub returns-in_err-ends-clause-not_stopped : goal.returns-in_err-ends-clause-not_stopped
returns-in_err-ends-clause-not_stopped g c =
    let not = c.in_err-ends.ensures.not_stopped c.args.bureau.now (after_given c.args.bureau.now c.args.performed.now c.requires.none c.requires.takes_more) in
    search rules

pub returns-in_err-halts-clause-not_stopped : goal.returns-in_err-halts-clause-not_stopped
returns-in_err-halts-clause-not_stopped g c =
    let after : IsAfter c.args.bureau.now c.operate.new.performed c.operate.new.bureau = c.in_ok-ends.ensures.after c.args.bureau.now (after_given c.args.bureau.now c.args.performed.now c.requires.none c.requires.takes_more) in
    let not = c.in_err-halts.ensures.not_stopped after.takes_more in
    search rules
