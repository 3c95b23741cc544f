use Rattle.s3_day_log.proofs.WritingLemmas.{one, files_end, files_step}
use Rattle.s3_day_log.proofs.writing.Line.files.Goals as goal

pub loop-file-init : goal.loop-file-init
loop-file-init c = one _ c.in_ok-begin_array.ensures

pub loop-file-preserved : goal.loop-file-preserved
loop-file-preserved c = files_step c.args.files.now c.loop-file.file-index c.file-item.result c.loop-file-test.true c.file-item.is c.loop-file.invariant c.in_ok-file.ensures

pub returns : goal.returns
returns c = files_end c.end_array.result _ _ _ c.args.files.now c.loop-file.file-index c.loop-file-test.false c.loop-file.invariant (one c.end_array.result c.end_array.ensures)
