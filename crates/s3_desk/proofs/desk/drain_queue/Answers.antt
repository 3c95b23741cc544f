use Rattle.std.proofs.Common.{refl, arith}
use Rattle.s3_cards.specs.declared.levels.LevelId.{LevelId}
use Rattle.s3_solo.specs.declared.action.Action.TheVariants.{Drain}
use Rattle.s3_bureau.specs.declared.entry.Entry.{Entry}
use Rattle.s3_desk.proofs.Sittings.{acts_alone, after_acts, does_nothing, idle_not, line_more, lines_end, none_drained, on_not_cut, once, one_more, queue_ends, refused_not, uses_ends, uses_line}
use Rattle.s3_desk.proofs.desk.drain_queue.Goals as goal

abbrev drain : LevelId → Entry
drain level = record { level = level; action = Drain }

pub loop-left-preserved : goal.loop-left-preserved
loop-left-preserved g c =
    let after = after_acts g.M.Machine.after (drain c.args.level) 1 1 c.loop-left.performed c.note.new.self c.loop-left.bureau c.step.new.self (c.in_ok-step.ensures.acted c.in-Acted.is) refl c.in_ok-note-in-Acted.ensures.noted in (
      one_more g.M.Machine.holds c.args.level c.args.performed.now c.loop-left.performed c.note.new.self c.args.bureau.now c.loop-left.bureau c.step.new.self c.loop-left.went c.loop-left.invariant.0
          (acts_alone g.M.Machine.holds (drain c.args.level) 1 1 c.in_ok-step.field-0 c.loop-left.performed c.note.new.self c.loop-left.bureau c.step.new.self refl
          (once Drain c.in_ok-step.field-0 (g.M.Machine.holds c.loop-left.bureau c.args.level) (g.M.Machine.holds c.step.new.self c.args.level) c.in_ok-step.ensures.own)
          c.in_ok-step.ensures.other refl c.in_ok-note-in-Acted.ensures.noted),
      (
        uses_line c.args.level c.args.performed.now c.loop-left.performed c.note.new.self c.args.left.now c.loop-left.left _ c.loop-left.went c.loop-left.invariant.1.0 c.in_ok-note-in-Acted.ensures.noted refl (omega (arith, c.loop-left-test.true)),
        (
          on_not_cut,
          (
            λ first before. after first (c.loop-left.invariant.1.1.1.0 first before),
            (
              λ first kept. c.in_ok-step.ensures.kept first (c.loop-left.invariant.1.1.1.1.0 first kept),
              (
                omega (arith, c.in_ok-step.ensures.failed, c.loop-left.invariant.1.1.1.1.1.0),
                line_more c.args.level c.args.performed.now c.loop-left.performed c.note.new.self c.loop-left.invariant.1.1.1.1.1.1 c.in_ok-note-in-Acted.ensures.noted,
              ),
            ),
          ),
        ),
      ),
    )

pub returns-in-Idle-clause-goes : goal.returns-in-Idle-clause-goes
returns-in-Idle-clause-goes g c =
    queue_ends g.M.Machine.holds c.args.level c.args.performed.now c.loop-left.performed c.args.bureau.now c.loop-left.bureau c.step.new.self c.loop-left.went c.loop-left.invariant.0
    (does_nothing g.M.Machine.holds (drain c.args.level) 1 c.in_ok-step.field-0 c.loop-left.performed c.loop-left.bureau c.step.new.self (omega arith) (idle_not c.in_ok-step.field-0 c.in-Idle.is)
    (once Drain c.in_ok-step.field-0 (g.M.Machine.holds c.loop-left.bureau c.args.level) (g.M.Machine.holds c.step.new.self c.args.level) c.in_ok-step.ensures.own) c.in_ok-step.ensures.other)

pub returns-in-Refused-clause-goes : goal.returns-in-Refused-clause-goes
returns-in-Refused-clause-goes g c =
    queue_ends g.M.Machine.holds c.args.level c.args.performed.now c.loop-left.performed c.args.bureau.now c.loop-left.bureau c.step.new.self c.loop-left.went c.loop-left.invariant.0
    (does_nothing g.M.Machine.holds (drain c.args.level) 1 c.in_ok-step.field-0 c.loop-left.performed c.loop-left.bureau c.step.new.self (omega arith) (refused_not c.in_ok-step.field-0 _ c.in-Refused.is)
    (once Drain c.in_ok-step.field-0 (g.M.Machine.holds c.loop-left.bureau c.args.level) (g.M.Machine.holds c.step.new.self c.args.level) c.in_ok-step.ensures.own) c.in_ok-step.ensures.other)

pub returns-in-Idle-clause-after : goal.returns-in-Idle-clause-after
returns-in-Idle-clause-after g c = λ first before. c.in_ok-step.ensures.quiet (idle_not c.in_ok-step.field-0 c.in-Idle.is) c.loop-left.performed first (c.loop-left.invariant.1.1.1.0 first before)

pub returns-in-Refused-clause-after : goal.returns-in-Refused-clause-after
returns-in-Refused-clause-after g c = λ first before. c.in_ok-step.ensures.quiet (refused_not c.in_ok-step.field-0 _ c.in-Refused.is) c.loop-left.performed first (c.loop-left.invariant.1.1.1.0 first before)

pub returns-clause-goes : goal.returns-clause-goes
returns-clause-goes g c = lines_end g.M.Machine.holds c.args.level c.args.performed.now c.loop-left.performed c.args.bureau.now c.loop-left.bureau c.loop-left.went c.cut_unless_on.result c.loop-left.invariant.0 c.cut_unless_on.ensures.on c.cut_unless_on.ensures.cut

pub returns-clause-uses : goal.returns-clause-uses
returns-clause-uses g c = uses_ends c.args.level c.args.performed.now c.loop-left.performed c.args.left.now c.loop-left.left c.loop-left.went c.cut_unless_on.result c.loop-left.invariant.1.0 (omega (arith, c.loop-left-test.false)) c.cut_unless_on.ensures.on c.cut_unless_on.ensures.cut

pub returns-in-Idle-clause-idle : goal.returns-in-Idle-clause-idle
returns-in-Idle-clause-idle g c = none_drained g.M.Machine.holds c.args.level c.args.performed.now c.loop-left.performed c.args.bureau.now c.loop-left.bureau c.loop-left.went c.loop-left.invariant.0 c.loop-left.invariant.1.1.0

pub returns-in-Refused-clause-idle : goal.returns-in-Refused-clause-idle
returns-in-Refused-clause-idle g c = none_drained g.M.Machine.holds c.args.level c.args.performed.now c.loop-left.performed c.args.bureau.now c.loop-left.bureau c.loop-left.went c.loop-left.invariant.0 c.loop-left.invariant.1.1.0

pub returns-clause-idle : goal.returns-clause-idle
returns-clause-idle g c = λ not_on.
    none_drained g.M.Machine.holds c.args.level c.args.performed.now c.loop-left.performed c.args.bureau.now c.loop-left.bureau c.loop-left.went c.loop-left.invariant.0 c.loop-left.invariant.1.1.0 (λ on. not_on (c.cut_unless_on.ensures.on on))

pub returns-in-Idle-clause-lines : goal.returns-in-Idle-clause-lines
returns-in-Idle-clause-lines g c = c.loop-left.invariant.1.1.1.1.1.1

pub returns-in-Refused-clause-lines : goal.returns-in-Refused-clause-lines
returns-in-Refused-clause-lines g c = c.loop-left.invariant.1.1.1.1.1.1

pub returns-clause-lines : goal.returns-clause-lines
returns-clause-lines g c = c.loop-left.invariant.1.1.1.1.1.1
