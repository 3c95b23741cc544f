use Rattle.std.proofs.Common.{◌++◌, length}
use Rattle.s3_ocl.specs.Parameters.{parts_of}
use Rattle.s3_ocl.specs.Statements.{pieces_in}
use Rattle.s3_ocl.proofs.PieceLemmas.{Leaves}
use Rattle.s3_ocl.proofs.statements.add_pieces.Given as goal

abbrev pub invariant-parts : goal.invariant-parts
invariant-parts l =
    Leaves l.verb l.number (l.fn.pieces.items ++ pieces_in l.verb l.number (length l.fn.pieces.items) (parts_of l.fn.text)) l.pieces.items l.left

abbrev pub decreases-parts : goal.decreases-parts
decreases-parts l = length l.left
