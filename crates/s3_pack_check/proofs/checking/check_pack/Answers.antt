use Rattle.s3_pack_check.proofs.Told.{refused_told}
use Rattle.s3_pack_check.proofs.checking.check_pack.Goals as goal

pub returns-in-Err-clause-refused : goal.returns-in-Err-clause-refused
returns-in-Err-clause-refused c = refused_told _ _ _ _ _ c.in_ok-from_slice.ensures.items c.from_bytes-store.ensures c.in-Err.ensures.refused c.fault_of.ensures
