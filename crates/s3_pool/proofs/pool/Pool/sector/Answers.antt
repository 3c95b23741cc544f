use Rattle.std.proofs.Common.{Some, refl, sym, ap, ◌∙◌}
use Rattle.std.proofs.lemmas.Result.{err_from_is_err_and}
use Rattle.s3_pool.proofs.Steps.{kept, held_contents, no_sector_err, no_sector_ok, at_within}
use Rattle.s3_pool.proofs.pool.Pool.sector.Goals as goal

pub returns-in_err-slot : goal.returns-in_err-slot
returns-in_err-slot g c =
    let sectors = g.S.PackStore.contents c.self.inside.store in
    let p = err_from_is_err_and c.from_residual.result c.from_residual.ensures.1 in
    rw (p.1, p.2, ← c.self.view_is) (
      (refl, (λ w. tt), kept c.self.inside.buffers c.load_if_there.new.buffers _ _ _ c.load_if_there.ensures.keeps c.in_err-slot.ensures.failures),
      record {
        keeps = tt;
        value = tt;
        no_sector = no_sector_err c.args.n sectors c.self.inside.buffers.slots.items _ c.in_err-slot.ensures.no_sector;
      },
    )

pub buffer-requires : goal.buffer-requires
buffer-requires g c = at_within c.args.n c.in_ok-slot.slot c.load_if_there.new.buffers.slots.items c.in_ok-slot.ensures.at

pub returns : goal.returns
returns g c =
    let sectors = g.S.PackStore.contents c.self.inside.store in
    let within = c.in_ok-slot.ensures.in_range in
    rw (← c.self.view_is) (
      (refl, (λ w. tt), kept c.self.inside.buffers c.load_if_there.new.buffers _ _ _ c.load_if_there.ensures.keeps c.in_ok-slot.ensures.failures),
      record {
        keeps = tt;
        value = held_contents c.args.n c.in_ok-slot.slot c.buffer.result.now c.load_if_there.ensures.keeps within c.in_ok-slot.ensures.at c.buffer.ensures ∙ ap Some (sym c.bytes.ensures);
        no_sector = no_sector_ok c.args.n sectors c.self.inside.buffers.slots.items c.bytes.result within;
      },
    )
