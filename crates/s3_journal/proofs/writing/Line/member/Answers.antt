use Rattle.s3_journal.proofs.WritingLemmas.{one, then_on}
use Rattle.s3_journal.proofs.writing.Line.member.Goals as goal

pub returns : goal.returns
returns c = then_on c.value.result _ _ _ _ _ (one _ c.in_ok-key.ensures) c.value.ensures
