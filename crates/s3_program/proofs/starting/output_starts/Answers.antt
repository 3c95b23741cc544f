use Rattle.s3_program.proofs.StartLemmas.{output_more, outputs_all}
use Rattle.s3_program.proofs.starting.output_starts.Goals as goal

pub loop-place-preserved : goal.loop-place-preserved
loop-place-preserved c = output_more _ _ _ c.args.outputs.now _ _ _ _ c.loop-place-test.true c.output_file-file.ensures c.in_ok-add_output.ensures c.loop-place.invariant

pub returns : goal.returns
returns c = outputs_all _ _ _ _ _ c.loop-place-test.false c.loop-place.invariant
