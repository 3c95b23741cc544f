use Rattle.s3_cycle.specs.declared.progress.Point.TheVariants as at
use Rattle.s3_cycle.specs.Inner.Requests.{answer_of}
use Rattle.s3_cycle.proofs.AnswerLemmas.{asked_fits, chained_fits, head_ranged, never_answered, read_fits, stored_fits, waits_at}
use Rattle.s3_cycle.proofs.stepper.Stepper.go_on.Goals as goal

pub go_on_stored-requires-clause-fits : goal.go_on_stored-requires-clause-fits
go_on_stored-requires-clause-fits c =
    stored_fits c.args.self.now.program c.args.self.now.composition c.args.self.now.request c.args.answer.now
    (waits_at c.args.self.now (at.Records c.in-Records.walk c.in-Records.next) c.requires.waiting c.in-Records.is).0 c.requires.fits

pub go_on_read-requires-clause-fits : goal.go_on_read-requires-clause-fits
go_on_read-requires-clause-fits c =
    let waits = waits_at c.args.self.now (at.Head c.in-Head.place) c.requires.waiting c.in-Head.is in
    read_fits c.args.self.now.program c.args.self.now.progress c.args.self.now.composition c.in-Head.place c.args.self.now.request c.args.answer.now
    (head_ranged c.args.self.now c.in-Head.place c.requires.waiting.running waits.1.within) waits.0 c.requires.fits

pub go_on_chained-requires-clause-fits : goal.go_on_chained-requires-clause-fits
go_on_chained-requires-clause-fits c =
    chained_fits c.args.self.now.program c.args.self.now.composition c.in-Chained.file c.in-Chained.missing c.args.self.now.request c.args.answer.now
    (waits_at c.args.self.now (at.Chained c.in-Chained.file c.in-Chained.missing) c.requires.waiting c.in-Chained.is).0 c.requires.fits

pub go_on_replied-requires-clause-fits : goal.go_on_replied-requires-clause-fits
go_on_replied-requires-clause-fits c =
    asked_fits c.args.self.now.program c.args.self.now.composition c.args.self.now.request c.args.answer.now (waits_at c.args.self.now (at.Reply c.in-Reply.then) c.requires.waiting c.in-Reply.is).0 c.requires.fits

pub unreachable-requires : goal.unreachable-requires
unreachable-requires c =
    never_answered c.args.self.now.program c.args.self.now.composition c.args.self.now.request c.in-End.at_once (answer_of c.args.answer.now) (waits_at c.args.self.now (at.End c.in-End.at_once) c.requires.waiting c.in-End.is) c.requires.fits

pub go_on_stored-requires-clause-walk : goal.go_on_stored-requires-clause-walk
go_on_stored-requires-clause-walk c = (waits_at c.args.self.now (at.Records c.in-Records.walk c.in-Records.next) c.requires.waiting c.in-Records.is).1.0

pub go_on_stored-requires-clause-past : goal.go_on_stored-requires-clause-past
go_on_stored-requires-clause-past c = (waits_at c.args.self.now (at.Records c.in-Records.walk c.in-Records.next) c.requires.waiting c.in-Records.is).1.1

pub go_on_chained-requires-clause-calculates : goal.go_on_chained-requires-clause-calculates
go_on_chained-requires-clause-calculates c = (waits_at c.args.self.now (at.Chained c.in-Chained.file c.in-Chained.missing) c.requires.waiting c.in-Chained.is).1.0

pub go_on_chained-requires-clause-past : goal.go_on_chained-requires-clause-past
go_on_chained-requires-clause-past c = (waits_at c.args.self.now (at.Chained c.in-Chained.file c.in-Chained.missing) c.requires.waiting c.in-Chained.is).1.1
