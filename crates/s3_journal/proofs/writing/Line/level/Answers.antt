use Rattle.s3_journal.proofs.WritingLemmas.{one, then, then_on}
use Rattle.s3_journal.proofs.writing.Line.level.Goals as goal

pub returns : goal.returns
returns c =
    then_on c.end_object.result _ _ _ _ _
    (then (then (then (then (one _ c.in_ok-begin_object.ensures) (one _ c.in_ok-key.ensures)) (one _ c.in_ok-u64.ensures)) (one _ c.in_ok-key-2.ensures)) (one _ c.in_ok-u64-2.ensures))
    (one c.end_object.result c.end_object.ensures)
