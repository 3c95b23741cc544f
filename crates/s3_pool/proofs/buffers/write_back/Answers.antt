use Rattle.std.proofs.Common.{sym}
use Rattle.s3_store.proofs.SectorLists.{slice_set_known}
use Rattle.s3_pool.proofs.buffers.write_back.Goals as goal

pub returns-then-not-buffer-clause-ok : goal.returns-then-not-buffer-clause-ok
returns-then-not-buffer-clause-ok g c = sym (slice_set_known _ _ _ (c.requires.clean c.if-not-buffer.true))
