use Rattle.std.proofs.Common.{refl}
use Rattle.std.proofs.lemmas.Result.{IfOk-weaker}
use Rattle.s3_blame.specs.Inner.OwnMarks.{is_open_on_output, marks_of_output_line}
use Rattle.s3_blame.proofs.OwnLemmas.{alone_at}
use Rattle.s3_blame.proofs.PartLemmas.{alone_of_at, unless_open}
use Rattle.s3_blame.proofs.outputs.line_entries.Goals as goal

pub returns-in-5-clause-own : goal.returns-in-5-clause-own
returns-in-5-clause-own c = IfOk-weaker c.at_fault.result _ _
    (λ found is. alone_at marks_of_output_line 5 c.args.card c.args.number _ (7, 14) found.items c.in-5.is refl c.entry_alone.ensures.spans c.entry_alone.ensures.fails is)
    c.at_fault.ensures.marked

pub returns-in-5-clause-named : goal.returns-in-5-clause-named
returns-in-5-clause-named c = IfOk-weaker c.at_fault.result _ _
    (λ found is shut. alone_of_at marks_of_output_line 5 c.args.card c.args.number _ (7, 14) found.items c.in-5.is refl c.entry_alone.ensures.spans c.entry_alone.ensures.fails is)
    c.at_fault.ensures.only

pub returns-in-12-clause-named : goal.returns-in-12-clause-named
returns-in-12-clause-named c = IfOk-weaker c.at_fault-in-12.result _ _
    (λ found is shut. unless_open _ is_open_on_output 12 c.args.number c.in-12.is refl shut)
    c.at_fault-in-12.ensures.only
