use Rattle.std.proofs.Common.{◌≡◌, take}
use Rattle.std.specs.List.{flat_map}
use Rattle.s3_ocl.specs.Faults.{first_fault, piece_faults}
use Rattle.s3_ocl.proofs.faults.pieces_fault.Given as goal

abbrev pub invariant-loop-piece : goal.invariant-loop-piece
invariant-loop-piece l = l.fault ≡ first_fault (flat_map (piece_faults l.files l.number) (take l.piece-index l.pieces))
