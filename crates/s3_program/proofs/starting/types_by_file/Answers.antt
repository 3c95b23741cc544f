use Rattle.s3_program.proofs.StartLemmas.{types_more}
use Rattle.s3_program.proofs.starting.types_by_file.Goals as goal

pub loop-file-preserved : goal.loop-file-preserved
loop-file-preserved c = types_more c.args.starts.now _ _ _ _ c.in_ok-push.ensures.items c.in_ok-types_of_file.ensures c.loop-file.invariant
