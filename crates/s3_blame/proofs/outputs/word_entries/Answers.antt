use Rattle.std.proofs.Common.{refl}
use Rattle.std.proofs.lemmas.Result.{IfOk-weaker}
use Rattle.s3_blame.specs.Inner.OwnMarks.{marks_of_word}
use Rattle.s3_blame.proofs.OwnLemmas.{alone_at}
use Rattle.s3_blame.proofs.PartLemmas.{alone_of_at}
use Rattle.s3_blame.proofs.outputs.word_entries.Goals as goal

pub returns-in-9-clause-own : goal.returns-in-9-clause-own
returns-in-9-clause-own c = IfOk-weaker c.at_fault.result _ _
    (λ found is. alone_at marks_of_word 9 c.args.card c.args.number _ (14, 16) found.items c.in-9.is refl c.entry_alone.ensures.spans c.entry_alone.ensures.fails is)
    c.at_fault.ensures.marked

pub returns-in-9-clause-named : goal.returns-in-9-clause-named
returns-in-9-clause-named c = IfOk-weaker c.at_fault.result _ _
    (λ found is. alone_of_at marks_of_word 9 c.args.card c.args.number _ (14, 16) found.items c.in-9.is refl c.entry_alone.ensures.spans c.entry_alone.ensures.fails is)
    c.at_fault.ensures.only
