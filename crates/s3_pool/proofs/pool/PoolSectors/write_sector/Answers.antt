use Rattle.s3_pool.proofs.Steps.{changes_one, inside}
use Rattle.s3_pool.proofs.pool.PoolSectors.write_sector.Goals as goal

pub overwrite-requires-clause-in_range : goal.overwrite-requires-clause-in_range
overwrite-requires-clause-in_range g c =
    inside c.args.n _ c.self.inside.buffers.slots.items (rw (← c.self.view_is) at c.requires)

pub returns-clause-within : goal.returns-clause-within
returns-clause-within g c =
    rw (← c.self.view_is) (changes_one _ _ c.self.inside.buffers c.overwrite.new.buffers _ _ c.args.n c.args.bytes.now _ c.overwrite.ensures.ok c.overwrite.ensures.err)
