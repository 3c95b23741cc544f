use Rattle.std.proofs.Common.{false, ap, ◌∙◌}
use Rattle.std.specs.Box.{with_value}
use Rattle.s3_pool.specs.declared.buffers.Buffer.{Buffer}
use Rattle.s3_pool.proofs.Steps.{laid_refl, in_range_of, was_read, taken_indexed}
use Rattle.s3_pool.proofs.buffers.read_in.Goals as goal

pub take_in-requires-clause-slot : goal.take_in-requires-clause-slot
take_in-requires-clause-slot g c = in_range_of _ c.args.buffers.now.slots.items c.args.way c.requires.way

pub returns-clause-keeps : goal.returns-clause-keeps
returns-clause-keeps g c =
    let new : Buffer = record { sector = c.args.n; bytes = with_value c.args.buffers.now.spare c.read.new.bytes; is_dirty = false } in
    rw (c.note_use.ensures.slots, c.in_ok-slot.ensures.ok, c.in_ok-read.ensures.contents)
    (was_read c.args.way new (laid_refl c.requires.sound) c.requires.way c.requires.missed c.requires.in_range c.in_ok-read.ensures.ok)

pub returns-clause-indexed : goal.returns-clause-indexed
returns-clause-indexed g c =
    let new : Buffer = record { sector = c.args.n; bytes = with_value c.args.buffers.now.spare c.read.new.bytes; is_dirty = false } in
    rw c.in_ok-read.ensures.contents
    (taken_indexed c.args.buffers.now c.note_use.new.self c.args.way new (laid_refl c.requires.sound) c.requires.way c.requires.missed c.requires.in_range c.requires.indexed
    (ap (λ v. v.items) c.note_use.ensures.slots ∙ c.in_ok-slot.ensures.ok)
    (ap (λ v. v.items) c.note_use.ensures.places ∙ c.in_ok-slot.ensures.places))
