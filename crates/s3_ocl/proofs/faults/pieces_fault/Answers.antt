use Rattle.s3_ocl.specs.Faults.{piece_faults}
use Rattle.s3_ocl.proofs.FaultLemmas.{no_fault_yet, fault_more}
use Rattle.s3_ocl.proofs.faults.pieces_fault.Goals as goal

pub loop-piece-init : goal.loop-piece-init
loop-piece-init c = no_fault_yet (piece_faults c.args.files.now c.args.number) c.args.pieces.now

pub loop-piece-preserved : goal.loop-piece-preserved
loop-piece-preserved c =
    fault_more (piece_faults c.args.files.now c.args.number) c.args.pieces.now c.loop-piece.piece-index _ _ _ _ c.loop-piece-test.true c.loop-piece.invariant
    c.piece_fault.ensures c.earlier-fault.ensures
