use Rattle.s3_listing.proofs.Mounting.{refused_list}
use Rattle.s3_listing.proofs.written.mount_slots.Goals as goal

pub returns-in-Err-clause-refused : goal.returns-in-Err-clause-refused
returns-in-Err-clause-refused c = refused_list _ _ _ _ _ c.in_ok-from_slice.ensures.items c.from_bytes-store.ensures c.in-Err.ensures.refused c.fault_of.ensures
