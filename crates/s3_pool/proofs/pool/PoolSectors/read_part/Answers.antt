use Rattle.std.proofs.Common.{◌≡◌, rules, length, slice_get, Some, sym, ap, ◌∙◌}
use Rattle.s3_store.specs.Bytes.{part}
use Rattle.s3_store.proofs.SectorParts.{sector_bytes-there}
use Rattle.s3_pool.proofs.Steps.{at_within, held_contents, inside}
use Rattle.s3_pool.proofs.pool.PoolSectors.read_part.Goals as goal

pub load-requires-clause-in_range : goal.load-requires-clause-in_range
load-requires-clause-in_range g c = inside c.args.n _ c.self.inside.buffers.slots.items (rw (← c.self.view_is) at c.requires.there)

pub buffer-requires : goal.buffer-requires
buffer-requires g c = at_within c.args.n c.in_ok-slot.slot c.load.new.buffers.slots.items c.in_ok-slot.ensures.at

pub returns-clause-ok : goal.returns-clause-ok
returns-clause-ok g c =
    let old = c.args.self.now.contents in
    let within = inside c.args.n _ c.self.inside.buffers.slots.items (rw (← c.self.view_is) at c.requires.there) in
    let value : slice_get old c.args.n ≡ Some c.bytes.result.now = rw (← c.self.view_is) (held_contents c.args.n c.in_ok-slot.slot c.buffer.result.now c.load.ensures.keeps within c.in_ok-slot.ensures.at c.buffer.ensures ∙ ap Some (sym c.bytes.ensures)) in
    let whole : length c.bytes.result.now ≡ 256 = search rules in
    let there = sector_bytes-there old c.args.n c.bytes.result.now value whole in
    c.take_part.ensures ∙ ap (λ l. part l c.args.at (length c.args.piece.now)) (sym there)
