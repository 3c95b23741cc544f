use Rattle.s3_diagnose.proofs.Walks.{ranged_at}
use Rattle.s3_warnings.proofs.FactLemmas.{shapes_more}
use Rattle.s3_warnings.proofs.shapes.note_shapes.Goals as goal

pub note_shape-requires : goal.note_shape-requires
note_shape-requires c = ranged_at c.args.lines.now c.loop-line.line-index _ c.loop-line-test.true c.requires

pub loop-line-preserved : goal.loop-line-preserved
loop-line-preserved c =
    shapes_more c.args.shapes.now.entries c.loop-line.shapes.entries c.note_shape.new.shapes.entries c.args.lines.now c.loop-line.line-index _ c.loop-line-test.true c.in_ok-note_shape.ensures c.loop-line.invariant
