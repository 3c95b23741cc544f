use Rattle.std.proofs.Common.{refl, arith}
use Rattle.std.specs.Int.NonZero.{non_zero_u16_get}
use Rattle.s3_cards.specs.declared.levels.LevelId.{LevelId}
use Rattle.s3_solo.specs.declared.action.Action.TheVariants.{Turn}
use Rattle.s3_bureau.specs.declared.entry.Entry.{Entry}
use Rattle.s3_desk.proofs.Sittings.{acts_alone, after_acts, alike_turns, does_nothing, idle_not, refused_not, uses_turns}
use Rattle.s3_desk.proofs.desk.take_turns.Goals as goal

abbrev turn : LevelId → Entry
turn level = record { level = level; action = Turn }

pub returns-in_ok-note-in-Acted-clause-goes : goal.returns-in_ok-note-in-Acted-clause-goes
returns-in_ok-note-in-Acted-clause-goes g c =
    acts_alone g.M.Machine.holds (turn c.args.level) c.in_ok-taken.taken.times c.from-times.result c.in_ok-taken.taken.did c.args.performed.now c.note.new.self c.args.bureau.now c.repeat.new.self refl
    c.in_ok-taken.ensures.own c.in_ok-taken.ensures.other c.from-times.ensures c.in_ok-note-in-Acted.ensures.noted

pub returns-in-Idle-clause-goes : goal.returns-in-Idle-clause-goes
returns-in-Idle-clause-goes g c =
    does_nothing g.M.Machine.holds (turn c.args.level) c.in_ok-taken.taken.times c.in_ok-taken.taken.did c.args.performed.now c.args.bureau.now c.repeat.new.self c.in_ok-taken.ensures.times.some
    (idle_not c.in_ok-taken.taken.did c.in-Idle.is) c.in_ok-taken.ensures.own c.in_ok-taken.ensures.other

pub returns-in-Refused-clause-goes : goal.returns-in-Refused-clause-goes
returns-in-Refused-clause-goes g c =
    does_nothing g.M.Machine.holds (turn c.args.level) c.in_ok-taken.taken.times c.in_ok-taken.taken.did c.args.performed.now c.args.bureau.now c.repeat.new.self c.in_ok-taken.ensures.times.some
    (refused_not c.in_ok-taken.taken.did _ c.in-Refused.is) c.in_ok-taken.ensures.own c.in_ok-taken.ensures.other

pub returns-in_ok-note-in-Acted-clause-after : goal.returns-in_ok-note-in-Acted-clause-after
returns-in_ok-note-in-Acted-clause-after g c =
    after_acts g.M.Machine.after (turn c.args.level) c.in_ok-taken.taken.times c.from-times.result c.args.performed.now c.note.new.self c.args.bureau.now c.repeat.new.self
    (c.in_ok-taken.ensures.acted c.in-Acted.is) c.from-times.ensures c.in_ok-note-in-Acted.ensures.noted

pub returns-in-Idle-clause-after : goal.returns-in-Idle-clause-after
returns-in-Idle-clause-after g c = c.in_ok-taken.ensures.quiet (idle_not c.in_ok-taken.taken.did c.in-Idle.is) c.args.performed.now

pub returns-in-Refused-clause-after : goal.returns-in-Refused-clause-after
returns-in-Refused-clause-after g c = c.in_ok-taken.ensures.quiet (refused_not c.in_ok-taken.taken.did _ c.in-Refused.is) c.args.performed.now

pub returns-in_ok-note-in-Acted-clause-alike : goal.returns-in_ok-note-in-Acted-clause-alike
returns-in_ok-note-in-Acted-clause-alike g c =
    alike_turns g.M.Machine.holds (non_zero_u16_get c.args.stride) c.args.level c.in_ok-taken.taken.times c.from-times.result c.args.performed.now c.note.new.self c.args.bureau.now
    (omega (arith, c.in_ok-taken.ensures.times.few, c.in-Some.ensures, c.min.ensures)) c.in_ok-taken.ensures.job_ends c.from-times.ensures c.in_ok-note-in-Acted.ensures.noted

pub returns-in_ok-note-in-Acted-clause-uses : goal.returns-in_ok-note-in-Acted-clause-uses
returns-in_ok-note-in-Acted-clause-uses g c =
    uses_turns c.args.level c.from-times.result c.args.performed.now c.note.new.self c.args.left.now _ c.in_ok-note-in-Acted.ensures.noted (omega (arith, c.from-times.ensures, c.in_ok-taken.ensures.times.some))
    (omega (arith, c.from-times.ensures, c.in_ok-taken.ensures.times.few, c.in-Some.ensures, c.min.ensures)) refl

pub returns-in_ok-note-in-Acted-clause-idle : goal.returns-in_ok-note-in-Acted-clause-idle
returns-in_ok-note-in-Acted-clause-idle g c = λ not_on. absurd (not_on refl)
