use Rattle.std.proofs.Common.{Some, refl, sym, ap, ◌∙◌, add-zero}
use Rattle.std.proofs.lemmas.Result.{err_from_is_err_and}
use Rattle.s3_pool.proofs.Steps.{kept, held_contents, written, written_sound, written_indexed, no_sector_err, no_sector_ok, at_within}
use Rattle.s3_pool.proofs.pool.Pool.sector_mut.Goals as goal

pub returns-in_err-slot : goal.returns-in_err-slot
returns-in_err-slot g c =
    let sectors = g.S.PackStore.contents c.self.inside.store in
    let p = err_from_is_err_and c.from_residual.result c.from_residual.ensures.1 in
    rw (p.1, p.2, ← c.self.view_is) (
      (refl, (λ w h. absurd cc), kept c.self.inside.buffers c.load_if_there.new.buffers _ _ _ c.load_if_there.ensures.keeps c.in_err-slot.ensures.failures),
      record {
        writes_back = tt;
        value = tt;
        no_sector = no_sector_err c.args.n sectors c.self.inside.buffers.slots.items _ c.in_err-slot.ensures.no_sector;
      },
    )

pub buffer_mut-requires : goal.buffer_mut-requires
buffer_mut-requires g c = at_within c.args.n c.in_ok-slot.slot c.load_if_there.new.buffers.slots.items c.in_ok-slot.ensures.at

pub invariant_of-self-lent : goal.invariant_of-self-lent
invariant_of-self-lent g c = λ w. (
  written_sound _ c.load_if_there.new.buffers.slots.items c.in_ok-slot.slot c.buffer_mut.result.now w c.buffer_mut.ensures.value c.load_if_there.ensures.keeps.sound,
  written_indexed c.load_if_there.new.buffers c.in_ok-slot.slot c.buffer_mut.result.now w c.buffer_mut.ensures.value c.load_if_there.ensures.indexed,
)

pub returns : goal.returns
returns g c =
    let sectors = g.S.PackStore.contents c.self.inside.store in
    let within = c.in_ok-slot.ensures.in_range in
    let no_failure = c.in_ok-slot.ensures.failures ∙ add-zero (g.S.PackStore.failures c.self.inside.store) in
    rw (← c.self.view_is) (
      (refl, (λ w h. written c.self.inside.buffers c.load_if_there.new.buffers _ _ c.args.n c.in_ok-slot.slot c.buffer_mut.result.now w c.load_if_there.ensures.keeps no_failure c.in_ok-slot.ensures.at c.buffer_mut.ensures.value), tt),
      record {
        writes_back = tt;
        value = held_contents c.args.n c.in_ok-slot.slot c.buffer_mut.result.now c.load_if_there.ensures.keeps within c.in_ok-slot.ensures.at c.buffer_mut.ensures.value ∙ ap Some (sym c.bytes_mut.ensures.value);
        no_sector = no_sector_ok c.args.n sectors c.self.inside.buffers.slots.items c.bytes_mut.result within;
      },
    )
