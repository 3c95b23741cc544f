use Rattle.std.proofs.Common.{ℕ, refl, sym, true, false, true≢false, arith}
use Rattle.s3_cards.specs.declared.levels.LevelId.{LevelId}
use Rattle.s3_solo.specs.declared.action.Action.TheVariants.{Reply}
use Rattle.s3_bureau.specs.declared.entry.Entry.{Entry}
use Rattle.s3_desk.proofs.Sittings.{acts, after_acts, does_nothing, idle_not, once, refused_not, reply_taken}
use Rattle.s3_desk.proofs.Asking.{allowed_as, too_large}
use Rattle.s3_desk.proofs.desk.give.Goals as goal

abbrev reply : LevelId → ℕ → Entry
reply level digit = record { level = level; action = Reply digit }

pub returns-in_ok-note-in-Acted-clause-goes : goal.returns-in_ok-note-in-Acted-clause-goes
returns-in_ok-note-in-Acted-clause-goes g c =
    record {
      goes = acts g.M.Machine.holds (reply c.args.level c.args.digit) 1 1 c.in_ok-step.field-0 c.args.performed.now c.note.new.self c.args.bureau.now c.step.new.self
          (once (Reply c.args.digit) c.in_ok-step.field-0 (g.M.Machine.holds c.args.bureau.now c.args.level) (g.M.Machine.holds c.step.new.self c.args.level) c.in_ok-step.ensures.own)
          c.in_ok-step.ensures.other refl c.in_ok-note-in-Acted.ensures.noted;
      whole = c.in_ok-note-in-Acted.ensures.noted;
    }

pub returns-in-Idle-clause-goes : goal.returns-in-Idle-clause-goes
returns-in-Idle-clause-goes g c =
    (does_nothing g.M.Machine.holds (reply c.args.level c.args.digit) 1 c.in_ok-step.field-0 c.args.performed.now c.args.bureau.now c.step.new.self (omega arith)
    (idle_not c.in_ok-step.field-0 c.in-Idle.is)
    (once (Reply c.args.digit) c.in_ok-step.field-0 (g.M.Machine.holds c.args.bureau.now c.args.level) (g.M.Machine.holds c.step.new.self c.args.level) c.in_ok-step.ensures.own)
    c.in_ok-step.ensures.other).quiet

pub returns-in-Refused-clause-goes : goal.returns-in-Refused-clause-goes
returns-in-Refused-clause-goes g c =
    (does_nothing g.M.Machine.holds (reply c.args.level c.args.digit) 1 c.in_ok-step.field-0 c.args.performed.now c.args.bureau.now c.step.new.self (omega arith)
    (refused_not c.in_ok-step.field-0 _ c.in-Refused.is)
    (once (Reply c.args.digit) c.in_ok-step.field-0 (g.M.Machine.holds c.args.bureau.now c.args.level) (g.M.Machine.holds c.step.new.self c.args.level) c.in_ok-step.ensures.own)
    c.in_ok-step.ensures.other).quiet

pub returns-then-digit-gt9-clause-allowed : goal.returns-then-digit-gt9-clause-allowed
returns-then-digit-gt9-clause-allowed g c = λ w code held waits. too_large code c.args.digit c.if-digit-gt9.true

pub returns-in_ok-note-in-Acted-clause-allowed : goal.returns-in_ok-note-in-Acted-clause-allowed
returns-in_ok-note-in-Acted-clause-allowed g c =
    allowed_as c.args.digit c.in_ok-step.field-0 true (g.M.Machine.holds c.args.bureau.now c.args.level) (g.M.Machine.holds c.step.new.self c.args.level) c.in_ok-step.ensures.own
    (λ is. c.in-Acted.is) (λ wrong. absurd (true≢false wrong))

pub returns-in-Idle-clause-allowed : goal.returns-in-Idle-clause-allowed
returns-in-Idle-clause-allowed g c =
    allowed_as c.args.digit c.in_ok-step.field-0 false (g.M.Machine.holds c.args.bureau.now c.args.level) (g.M.Machine.holds c.step.new.self c.args.level) c.in_ok-step.ensures.own
    (λ wrong. absurd (true≢false (sym wrong))) (λ is. idle_not c.in_ok-step.field-0 c.in-Idle.is)

pub returns-in-Refused-clause-allowed : goal.returns-in-Refused-clause-allowed
returns-in-Refused-clause-allowed g c =
    allowed_as c.args.digit c.in_ok-step.field-0 false (g.M.Machine.holds c.args.bureau.now c.args.level) (g.M.Machine.holds c.step.new.self c.args.level) c.in_ok-step.ensures.own
    (λ wrong. absurd (true≢false (sym wrong))) (λ is. refused_not c.in_ok-step.field-0 _ c.in-Refused.is)

pub returns-in_ok-note-in-Acted-clause-spends : goal.returns-in_ok-note-in-Acted-clause-spends
returns-in_ok-note-in-Acted-clause-spends g c = λ left. reply_taken c.args.level c.args.digit c.args.performed.now c.note.new.self left c.in_ok-note-in-Acted.ensures.noted

pub returns-in_ok-note-in-Acted-clause-after : goal.returns-in_ok-note-in-Acted-clause-after
returns-in_ok-note-in-Acted-clause-after g c =
    after_acts g.M.Machine.after (reply c.args.level c.args.digit) 1 1 c.args.performed.now c.note.new.self c.args.bureau.now c.step.new.self (c.in_ok-step.ensures.acted c.in-Acted.is) refl c.in_ok-note-in-Acted.ensures.noted

pub returns-in-Idle-clause-after : goal.returns-in-Idle-clause-after
returns-in-Idle-clause-after g c = c.in_ok-step.ensures.quiet (idle_not c.in_ok-step.field-0 c.in-Idle.is) c.args.performed.now

pub returns-in-Refused-clause-after : goal.returns-in-Refused-clause-after
returns-in-Refused-clause-after g c = c.in_ok-step.ensures.quiet (refused_not c.in_ok-step.field-0 _ c.in-Refused.is) c.args.performed.now
