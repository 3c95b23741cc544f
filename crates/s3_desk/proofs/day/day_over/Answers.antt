use Rattle.s3_bureau.specs.Inner.Held.{header_of}
use Rattle.s3_bureau.specs.declared.unwritten.Unwritten.{Unwritten}
use Rattle.s3_bureau.proofs.Running.{lines_over, unwritten_over}
use Rattle.s3_desk.specs.Inner.Days.{starts_in}
use Rattle.s3_desk.proofs.Days.{HoldsStarts, answered_in, day_printed, ends_of_day, sectors_of_day, starts_held, starts_of}
use Rattle.s3_desk.proofs.day.day_over.Goals as goal

pub returns-in-Ok-day-clause-runs : goal.returns-in-Ok-day-clause-runs
returns-in-Ok-day-clause-runs g c =
    let held : HoldsStarts c.in-Ok.bureau (header_of c.in-Ok.bureau) c.args.store c.args.one.cards c.args.two.cards =
    λ level. starts_held level c.in-Ok.bureau c.args.store c.args.one.cards c.args.two.cards c.in-Ok.ensures.one c.in-Ok.ensures.two in
    let run : Unwritten = record { bureau = c.operate_to_end-day.new.bureau; halts1 = c.in-Ok-day.halts1; halts2 = c.in-Ok-day.halts2 } in
    λ deck1 deck2 reads1 reads2.
    lines_over c.args.store deck1 deck2 c.operate_to_end-day.new.performed run c.into_lines-run.result c.into_lines-run.ensures.texts c.into_lines-run.ensures.pack
    (unwritten_over c.args.store deck1 deck2 c.args.one.cards c.args.two.cards c.args.one.refusal c.args.two.refusal c.operate_to_end-day.new.performed c.in-Ok.bureau run
    c.in-Ok.ensures.header c.in-Ok.ensures.contents c.in-Ok.ensures.one c.in-Ok.ensures.two c.in-Ok.ensures.rest reads1 reads2
    c.in-Ok.ensures.said c.in-Ok-day.ensures.texts c.in-Ok-day.ensures.slots c.in-Ok-day.ensures.files c.in-Ok-day.ensures.flushed
    (sectors_of_day c.in-Ok.bureau c.operate_to_end-day.new.bureau c.operate_to_end-day.new.performed (header_of c.in-Ok.bureau) c.args.store c.args.one.cards c.args.two.cards held c.operate_to_end-day.ensures.common c.in-Ok-day.ensures.idle))

pub returns-in-Ok-day-clause-printed : goal.returns-in-Ok-day-clause-printed
returns-in-Ok-day-clause-printed g c =
    let held : HoldsStarts c.in-Ok.bureau (header_of c.in-Ok.bureau) c.args.store c.args.one.cards c.args.two.cards =
    λ level. starts_held level c.in-Ok.bureau c.args.store c.args.one.cards c.args.two.cards c.in-Ok.ensures.one c.in-Ok.ensures.two in
    λ header is. day_printed (starts_in header c.args.store c.args.one.cards c.args.two.cards) c.args.one.refusal c.operate_to_end-day.new.performed c.in-Ok.bureau c.operate_to_end-day.new.bureau c.in-Ok-day.halts1.items c.into_lines-run.result
    (starts_of c.in-Ok.bureau header c.args.store c.args.one.cards c.args.two.cards c.in-Ok.ensures.header is held) c.in-Ok-day.ensures.lines c.into_lines-run.ensures.one c.into_lines-run.ensures.two c.into_lines-run.ensures.halts

pub returns-in-Ok-day-clause-ends : goal.returns-in-Ok-day-clause-ends
returns-in-Ok-day-clause-ends g c =
    let held : HoldsStarts c.in-Ok.bureau (header_of c.in-Ok.bureau) c.args.store c.args.one.cards c.args.two.cards =
    λ level. starts_held level c.in-Ok.bureau c.args.store c.args.one.cards c.args.two.cards c.in-Ok.ensures.one c.in-Ok.ensures.two in
    λ header is. ends_of_day c.in-Ok.bureau c.operate_to_end-day.new.performed c.in-Ok-day.ends (starts_in header c.args.store c.args.one.cards c.args.two.cards) (starts_of c.in-Ok.bureau header c.args.store c.args.one.cards c.args.two.cards c.in-Ok.ensures.header is held) c.in-Ok-day.ensures.one c.in-Ok-day.ensures.two

pub returns-in-Ok-day-clause-answered : goal.returns-in-Ok-day-clause-answered
returns-in-Ok-day-clause-answered g c =
    let held : HoldsStarts c.in-Ok.bureau (header_of c.in-Ok.bureau) c.args.store c.args.one.cards c.args.two.cards =
    λ level. starts_held level c.in-Ok.bureau c.args.store c.args.one.cards c.args.two.cards c.in-Ok.ensures.one c.in-Ok.ensures.two in
    λ header is. answered_in g.O.Operator.meets header c.args.store c.args.one.cards c.args.two.cards c.args.bounds c.operate_to_end-day.new.performed c.in-Ok.bureau c.in-Ok-day.ends c.args.operator.now c.operate_to_end-day.new.operator
    (starts_of c.in-Ok.bureau header c.args.store c.args.one.cards c.args.two.cards c.in-Ok.ensures.header is held) c.in-Ok-day.ensures.sits
