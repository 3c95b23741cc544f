use Rattle.s3_day_log.proofs.WritingLemmas.{one, then, then_on}
use Rattle.s3_day_log.proofs.writing.Line.file.Goals as goal

pub returns : goal.returns
returns c =
    rw (← c.as_str.ensures.value, ← c.as_str-2.ensures.value)
    (then_on c.end_object.result _ _ _ _ _
    (then (then (then (then (one _ c.in_ok-begin_object.ensures) (one _ c.in_ok-key.ensures)) (one _ c.in_ok-string.ensures)) (one _ c.in_ok-key-2.ensures)) (one _ c.in_ok-string-2.ensures))
    (one c.end_object.result c.end_object.ensures))
