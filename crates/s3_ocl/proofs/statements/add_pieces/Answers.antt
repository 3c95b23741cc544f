use Rattle.s3_ocl.proofs.PieceLemmas.{last_piece, one_more_piece}
use Rattle.s3_ocl.proofs.statements.add_pieces.Goals as goal

pub returns-in-None : goal.returns-in-None
returns-in-None c =
    last_piece _ _ _ _ _ c.parts.left.now _ c.parts.invariant c.in-None.ensures.parts c.first_part.ensures c.in_ok-add_piece.ensures

pub parts-preserved : goal.parts-preserved
parts-preserved c =
    one_more_piece _ _ _ _ _ c.parts.left.now _ c.in-Some.text.now c.parts.invariant c.in-Some.ensures.parts c.first_part.ensures c.in_ok-add_piece.ensures
