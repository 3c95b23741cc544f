use Rattle.s3_labels.specs.Contents.{contents_of}
use Rattle.s3_desk.proofs.Reporting.{day_written}
use Rattle.s3_desk.proofs.day.operate_printing.Goals as goal

pub returns-clause-answered : goal.returns-clause-answered
returns-clause-answered g c = c.operate_day.ensures.answered

pub returns-clause-written : goal.returns-clause-written
returns-clause-written g c =
    day_written c.args.printing.now c.operate_day.new.operator (λ p. record { contents = g.W.Write.contents p.reports.output.writer; has_failed = p.reports.output.has_failed; place = p.reports.place }) (λ p. p.is_one_read)
    (λ old event new. g.O.Operator.meets old.operator event new.operator) (contents_of c.args.pack.items) c.args.one.cards c.args.two.cards c.args.one.refusal c.args.bounds c.operate_day.new.performed c.operate_day.result
    c.operate_day.ensures.printed c.operate_day.ensures.answered
