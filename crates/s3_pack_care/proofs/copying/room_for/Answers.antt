use Rattle.std.proofs.Common.{refl, ap, ◌∙◌}
use Rattle.s3_slots.specs.declared.header.Header.{Header}
use Rattle.s3_slots.specs.declared.label.FileLabel.{FileLabel}
use Rattle.s3_labels.specs.Inner.AreaNumbers.{area_number}
use Rattle.s3_pack_care.specs.Inner.Copied.{copied_label}
use Rattle.s3_pack_care.proofs.Refusals.{room_is, room_refused}
use Rattle.s3_pack_care.proofs.copying.room_for.Goals as goal

pub returns-in-Err-clause-refused : goal.returns-in-Err-clause-refused
returns-in-Err-clause-refused c =
    room_refused (area_number c.args.area) c.args.name c.args.source.now c.args.areas.now c.header.result.format c.region_of.result c.masters_beside.result.now c.deref_mut.result.now c.asked.result (ap (λ (h : Header). h.format) c.header.ensures)
    c.region_of.ensures c.masters_beside.ensures (c.deref_mut.ensures.value ∙ c.in_ok-slots.ensures ∙ c.slots_of.ensures.slots) c.asked.ensures.name c.asked.ensures.tracks c.in_ok-unused.ensures.absent c.in-Err.fault c.in-Err.ensures.err

pub returns-clause-room : goal.returns-clause-room
returns-clause-room c =
    room_is (area_number c.args.area) c.args.name c.args.source.now c.args.areas.now c.header.result.format c.region_of.result c.masters_beside.result.now c.deref_mut.result.now c.asked.result (ap (λ (h : Header). h.format) c.header.ensures)
    c.region_of.ensures c.masters_beside.ensures (c.deref_mut.ensures.value ∙ c.in_ok-slots.ensures ∙ c.slots_of.ensures.slots) c.asked.ensures.name c.asked.ensures.tracks c.in_ok-unused.ensures.absent
    _ c.in-Ok.made.at c.in-Ok.made.at c.in-Ok.made.label _ c.in_ok-unused.ensures.undamaged c.in-Ok.ensures.ok c.in-Ok.ensures.within c.in-Ok.ensures.slot c.in-Ok.ensures.there refl
    (ap (λ (l : FileLabel). copied_label c.args.name l c.in-Ok.made.label.extents) c.copied-label.ensures)
