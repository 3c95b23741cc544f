use Rattle.s3_warnings.proofs.FactLemmas.{shapes_in_turn}
use Rattle.s3_warnings.proofs.shapes.shapes_of.Goals as goal

pub returns : goal.returns
returns c =
    shapes_in_turn c.new-shapes.result.entries c.note_reserved.new.shapes.entries c.note_shapes.new.shapes.entries c.args.lines.now
    c.new-shapes.ensures.empty c.in_ok-note_reserved.ensures c.in_ok-note_shapes.ensures
