use Rattle.std.proofs.Common.{slice_get, refl, sym, ap, ◌∙◌, arith}
use Rattle.std.proofs.lemmas.Option.{slice_get_read}
use Rattle.s3_pool.specs.Inner.BufferLending.{with_buffer}
use Rattle.s3_pool.proofs.buffers.Buffers.buffer_mut.Goals as goal

pub returns : goal.returns
returns c =
    let slots = c.args.self.now.slots.items in (
      (refl, λ w. ap (λ k. with_buffer c.args.self.now k w) c.from.ensures),
      record {
        writes_back = tt;
        value = ap (slice_get slots) (sym c.from.ensures) ∙ slice_get_read slots _ c.from.result c.index_mut.result.now refl (omega (arith, c.from.ensures, c.requires)) c.index_mut.ensures.value;
      },
    )
