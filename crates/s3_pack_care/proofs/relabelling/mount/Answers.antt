use Rattle.s3_pack_care.proofs.Refusals.{mount_refused}
use Rattle.s3_pack_care.proofs.relabelling.mount.Goals as goal

pub returns-in-Err-clause-err : goal.returns-in-Err-clause-err
returns-in-Err-clause-err c = mount_refused c.args.store _ _ c.in-Err.ensures.refused c.fault_of.ensures
