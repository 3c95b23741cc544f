use Rattle.s3_day_log.proofs.WritingLemmas.{one, texts_end, texts_step}
use Rattle.s3_day_log.proofs.writing.Line.texts.Goals as goal

pub loop-text-init : goal.loop-text-init
loop-text-init c = one _ c.in_ok-begin_array.ensures

pub loop-text-preserved : goal.loop-text-preserved
loop-text-preserved c =
    texts_step c.args.texts.now c.loop-text.text-index c.text-item.result c.as_str.result.now c.loop-text-test.true c.text-item.is c.as_str.ensures.value c.loop-text.invariant (one _ c.in_ok-string.ensures)

pub returns : goal.returns
returns c = texts_end c.end_array.result _ _ _ c.args.texts.now c.loop-text.text-index c.loop-text-test.false c.loop-text.invariant (one c.end_array.result c.end_array.ensures)
