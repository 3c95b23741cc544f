use Rattle.std.proofs.Common.{◌≡◌, rules, length, slice_get, slice_set, Some, sym, ap, ◌∙◌, add-zero}
use Rattle.s3_store.specs.Inner.Bytes.{with_part}
use Rattle.s3_store.proofs.SectorParts.{sector_bytes-there}
use Rattle.s3_pool.proofs.Steps.{at_within, changed_within, held_contents, inside, written}
use Rattle.s3_pool.proofs.pool.PoolSectors.change_sector.Goals as goal

pub load-requires-clause-in_range : goal.load-requires-clause-in_range
load-requires-clause-in_range g c = inside c.args.n _ c.self.inside.buffers.slots.items (rw (← c.self.view_is) at c.requires.there)

pub buffer_mut-requires : goal.buffer_mut-requires
buffer_mut-requires g c = at_within c.args.n c.in_ok-slot.slot c.load.new.buffers.slots.items c.in_ok-slot.ensures.at

pub returns-clause-ok : goal.returns-clause-ok
returns-clause-ok g c =
    let old = c.args.self.now.contents in
    let within = inside c.args.n _ c.self.inside.buffers.slots.items (rw (← c.self.view_is) at c.requires.there) in
    let no_failure = c.in_ok-slot.ensures.failures ∙ add-zero (g.S.PackStore.failures c.self.inside.store) in
    let change = written c.self.inside.buffers c.load.new.buffers _ _ c.args.n c.in_ok-slot.slot c.buffer_mut.result.now c.put_part.new.bytes c.load.ensures.keeps no_failure c.in_ok-slot.ensures.at c.buffer_mut.ensures.value in
    let value : slice_get old c.args.n ≡ Some c.bytes_mut.result.now = rw (← c.self.view_is) (held_contents c.args.n c.in_ok-slot.slot c.buffer_mut.result.now c.load.ensures.keeps within c.in_ok-slot.ensures.at c.buffer_mut.ensures.value ∙ ap Some (sym c.bytes_mut.ensures.value)) in
    let whole : length c.bytes_mut.result.now ≡ 256 = search rules in
    let there = sector_bytes-there old c.args.n c.bytes_mut.result.now value whole in
    change.contents
    ∙ ap (λ s. slice_set s.contents c.args.n c.put_part.new.bytes) c.self.view_is
    ∙ ap (slice_set old c.args.n) (c.put_part.ensures ∙ ap (λ l. with_part l c.args.at c.args.piece.now) (sym there))

pub returns-clause-within : goal.returns-clause-within
returns-clause-within g c =
    let no_failure = c.in_ok-slot.ensures.failures ∙ add-zero (g.S.PackStore.failures c.self.inside.store) in
    rw (← c.self.view_is)
    (changed_within c.args.n c.put_part.new.bytes (written c.self.inside.buffers c.load.new.buffers _ _ c.args.n c.in_ok-slot.slot c.buffer_mut.result.now c.put_part.new.bytes c.load.ensures.keeps no_failure c.in_ok-slot.ensures.at c.buffer_mut.ensures.value))
