use Rattle.std.proofs.Common.{sym, ◌∙◌}
use Rattle.s3_pool.proofs.Laid.{length_laid}
use Rattle.s3_pool.proofs.pool.PoolSectors.sector_count.Goals as goal

pub returns : goal.returns
returns g c = rw (← c.self.view_is) (c.sectors.ensures ∙ sym (length_laid c.self.inside.buffers.slots.items (g.S.PackStore.contents c.self.inside.store)))
