use Rattle.std.proofs.Common.{refl}
use Rattle.std.proofs.lemmas.Result.{IfOk-weaker}
use Rattle.s3_blame.specs.Inner.OwnMarks.{marks_of_record}
use Rattle.s3_blame.proofs.OwnLemmas.{alone_at}
use Rattle.s3_blame.proofs.PartLemmas.{alone_of_at}
use Rattle.s3_blame.proofs.inputs.record_entries.Goals as goal

pub returns-in-5-clause-own : goal.returns-in-5-clause-own
returns-in-5-clause-own c = IfOk-weaker c.at_fault.result _ _
    (λ found is. alone_at marks_of_record 5 c.args.card c.args.number _ (7, 14) found.items c.in-5.is refl c.entry_alone.ensures.spans c.entry_alone.ensures.fails is)
    c.at_fault.ensures.marked

pub returns-in-11-clause-own : goal.returns-in-11-clause-own
returns-in-11-clause-own c = IfOk-weaker c.at_fault-in-11.result _ _
    (λ found is. alone_at marks_of_record 11 c.args.card c.args.number _ (19, 20) found.items c.in-11.is refl c.entry_alone-in-11.ensures.spans c.entry_alone-in-11.ensures.fails is)
    c.at_fault-in-11.ensures.marked

pub returns-in-12-clause-own : goal.returns-in-12-clause-own
returns-in-12-clause-own c = IfOk-weaker c.at_fault-in-12.result _ _
    (λ found is. alone_at marks_of_record 12 c.args.card c.args.number _ (7, 14) found.items c.in-12.is refl c.entry_alone-in-12.ensures.spans c.entry_alone-in-12.ensures.fails is)
    c.at_fault-in-12.ensures.marked

pub returns-in-5-clause-named : goal.returns-in-5-clause-named
returns-in-5-clause-named c = IfOk-weaker c.at_fault.result _ _
    (λ found is. alone_of_at marks_of_record 5 c.args.card c.args.number _ (7, 14) found.items c.in-5.is refl c.entry_alone.ensures.spans c.entry_alone.ensures.fails is)
    c.at_fault.ensures.only

pub returns-in-11-clause-named : goal.returns-in-11-clause-named
returns-in-11-clause-named c = IfOk-weaker c.at_fault-in-11.result _ _
    (λ found is. alone_of_at marks_of_record 11 c.args.card c.args.number _ (19, 20) found.items c.in-11.is refl c.entry_alone-in-11.ensures.spans c.entry_alone-in-11.ensures.fails is)
    c.at_fault-in-11.ensures.only

pub returns-in-12-clause-named : goal.returns-in-12-clause-named
returns-in-12-clause-named c = IfOk-weaker c.at_fault-in-12.result _ _
    (λ found is. alone_of_at marks_of_record 12 c.args.card c.args.number _ (7, 14) found.items c.in-12.is refl c.entry_alone-in-12.ensures.spans c.entry_alone-in-12.ensures.fails is)
    c.at_fault-in-12.ensures.only
