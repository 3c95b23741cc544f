use Rattle.std.proofs.Common.{Some, refl, sym, ap, ◌∙◌, arith}
use Rattle.s3_pool.proofs.Laid.{length_laid, laid_missed}
use Rattle.s3_pool.proofs.Steps.{at_within, held_contents, inside}
use Rattle.s3_pool.proofs.pool.PoolSectors.read_sector.Goals as goal

pub is_unheld_block-requires-clause-in_range : goal.is_unheld_block-requires-clause-in_range
is_unheld_block-requires-clause-in_range g c =
    let within = rw (← c.self.view_is) at c.requires in
    omega (arith, within, c.self.invariant.1.whole, length_laid c.self.inside.buffers.slots.items (g.S.PackStore.contents c.self.inside.store))

pub read-requires : goal.read-requires
read-requires g c = inside c.args.n _ c.self.inside.buffers.slots.items (rw (← c.self.view_is) at c.requires)

pub load-requires-clause-in_range : goal.load-requires-clause-in_range
load-requires-clause-in_range g c = inside c.args.n _ c.self.inside.buffers.slots.items (rw (← c.self.view_is) at c.requires)

pub buffer-requires : goal.buffer-requires
buffer-requires g c = at_within c.args.n c.in_ok-slot.slot c.load.new.buffers.slots.items c.in_ok-slot.ensures.at

pub returns-clause-ok : goal.returns-clause-ok
returns-clause-ok g c =
    let within = inside c.args.n _ c.self.inside.buffers.slots.items (rw (← c.self.view_is) at c.requires) in
    rw (← c.self.view_is) (held_contents c.args.n c.in_ok-slot.slot c.buffer.result.now c.load.ensures.keeps within c.in_ok-slot.ensures.at c.buffer.ensures ∙ ap Some (sym c.bytes.ensures))

pub returns-then-is_unheld_block-clause-ok : goal.returns-then-is_unheld_block-clause-ok
returns-then-is_unheld_block-clause-ok g c =
    rw (← c.self.view_is) (laid_missed c.args.n c.self.inside.buffers.slots.items (g.S.PackStore.contents c.self.inside.store) (c.if-is_unheld_block.ensures refl) ∙ c.in_ok-read.ensures.ok)
