use Rattle.std.proofs.Common.{true, refl, ap, ◌∙◌}
use Rattle.std.specs.Box.{with_value}
use Rattle.s3_pool.specs.declared.buffers.Buffer.{Buffer}
use Rattle.s3_pool.proofs.Steps.{in_range_of, missed_overwritten, still_indexed, unmoved, taken_indexed}
use Rattle.s3_pool.proofs.buffers.cover.Goals as goal

pub returns-clause-ok : goal.returns-clause-ok
returns-clause-ok g c =
    let new : Buffer = record { sector = c.args.n; bytes = with_value c.args.buffers.now.spare c.args.bytes.now; is_dirty = true } in
    rw (c.note_use.ensures.slots, c.in_ok-slot.ensures.ok) (missed_overwritten c.in_ok-way.way new c.make_way.ensures.keeps c.in_ok-way.ensures.way c.requires.missed c.requires.in_range refl)

pub take_in-requires-clause-slot : goal.take_in-requires-clause-slot
take_in-requires-clause-slot g c = in_range_of _ c.args.buffers.now.slots.items c.in_ok-way.way c.in_ok-way.ensures.way

pub returns-in_err-way-clause-indexed : goal.returns-in_err-way-clause-indexed
returns-in_err-way-clause-indexed g c = still_indexed c.args.buffers.now c.make_way.ensures.keeps c.requires.indexed

pub returns-in_err-slot-clause-indexed : goal.returns-in_err-slot-clause-indexed
returns-in_err-slot-clause-indexed g c = unmoved c.args.buffers.now c.take_in.new.self c.make_way.ensures.keeps c.requires.indexed c.in_err-slot.ensures.err c.in_err-slot.ensures.err_places

pub returns-clause-indexed : goal.returns-clause-indexed
returns-clause-indexed g c =
    let new : Buffer = record { sector = c.args.n; bytes = with_value c.args.buffers.now.spare c.args.bytes.now; is_dirty = true } in
    taken_indexed c.args.buffers.now c.note_use.new.self c.in_ok-way.way new c.make_way.ensures.keeps c.in_ok-way.ensures.way c.requires.missed c.requires.in_range c.requires.indexed
    (ap (λ v. v.items) c.note_use.ensures.slots ∙ c.in_ok-slot.ensures.ok)
    (ap (λ v. v.items) c.note_use.ensures.places ∙ c.in_ok-slot.ensures.places)
