use Rattle.std.proofs.Common.{ap}
use Rattle.s3_pool.specs.Inner.BufferLending.{dirty, with_buffer}
use Rattle.s3_pool.proofs.Steps.{at_within, held_overwritten, laid_refl, unmoved, written_indexed}
use Rattle.s3_pool.proofs.buffers.overlay.Goals as goal

pub buffer_mut-requires : goal.buffer_mut-requires
buffer_mut-requires g c = at_within c.args.n c.in-Some.slot c.args.buffers.now.slots.items c.in-Some.ensures

pub returns-clause-ok : goal.returns-clause-ok
returns-clause-ok g c =
    rw c.note_use.ensures.slots
    (held_overwritten c.args.n c.in-Some.slot c.buffer_mut.result.now c.args.bytes.now c.requires.sound c.in-Some.ensures c.buffer_mut.ensures.value)

pub returns-clause-indexed : goal.returns-clause-indexed
returns-clause-indexed g c =
    let before = c.args.buffers.now in
    let buffer = c.buffer_mut.result.now in
    unmoved (with_buffer before c.in-Some.slot (dirty buffer c.args.bytes.now)) c.note_use.new.self (laid_refl c.requires.sound)
    (written_indexed before c.in-Some.slot buffer c.args.bytes.now c.buffer_mut.ensures.value c.requires.indexed)
    (ap (λ v. v.items) c.note_use.ensures.slots)
    (ap (λ v. v.items) c.note_use.ensures.places)
