use Rattle.s3_program.proofs.StartLemmas.{type_more, types_all}
use Rattle.s3_program.proofs.starting.type_starts.Goals as goal

pub loop-place-preserved : goal.loop-place-preserved
loop-place-preserved c = record {
  starts = type_more _ _ _ c.args.inputs.now _ _ _ _ _ c.loop-place-test.true c.type_file-file.ensures c.fields_behind-fields.ensures c.in_ok-add_type.ensures c.loop-place.invariant.starts;
  known = λ behind. c.fields_behind-fields.ensures;
}

pub returns : goal.returns
returns c = types_all _ _ _ _ _ c.loop-place-test.false c.loop-place.invariant.starts
