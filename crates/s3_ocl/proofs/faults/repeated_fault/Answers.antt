use Rattle.s3_ocl.specs.Faults.{again_faults, file_parameters}
use Rattle.s3_ocl.proofs.FaultLemmas.{no_fault_yet, fault_more}
use Rattle.s3_ocl.proofs.faults.repeated_fault.Goals as goal

pub loop-parameter-init : goal.loop-parameter-init
loop-parameter-init c = no_fault_yet (again_faults c.args.pieces.now) file_parameters

pub loop-parameter-preserved : goal.loop-parameter-preserved
loop-parameter-preserved c =
    fault_more (again_faults c.args.pieces.now) file_parameters c.loop-parameter.parameter-index _ _ _ _ c.loop-parameter-test.true c.loop-parameter.invariant
    c.again_fault.ensures c.earlier-fault.ensures
