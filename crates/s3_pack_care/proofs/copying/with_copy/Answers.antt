use Rattle.std.proofs.Common.{ℕ, ◌*◌, length, refl, sym, ap, ◌∙◌, subst, arith}
use Rattle.s3_slots.specs.Inner.Kept.{IsOfPack}
use Rattle.s3_slots.specs.Labels.{sectors_of}
use Rattle.s3_labels.specs.Contents.{contents_of}
use Rattle.s3_labels.proofs.Regions.{ready_room}
use Rattle.s3_pack_check.proofs.Files.{length_bytes}
use Rattle.s3_labels.specs.Inner.AreaNumbers.{area_number}
use Rattle.s3_labels.proofs.AreaNumbers.{area_few}
use Rattle.s3_pack_care.proofs.Copies.{area_region, as_many, copy_file, copy_is, on_pack, source_key, source_length}
use Rattle.s3_pack_care.specs.Inner.Copied.{RefusesCopy}
use Rattle.s3_pack_care.proofs.Placed.{takes_tracks}
use Rattle.s3_pack_care.proofs.Refusals.{handed_on, room_refuses}
use Rattle.s3_pack_care.proofs.copying.with_copy.Goals as goal

pub room_for-requires-clause-fits : goal.room_for-requires-clause-fits
room_for-requires-clause-fits c =
    omega (arith, (area_region (area_number c.args.area) c.in_ok-store.field-0.areas c.args.into (area_few c.args.area) c.in_ok-store.ensures.ready).high, c.in_ok-store.ensures.ready.few)

pub room_for-requires-clause-whole : goal.room_for-requires-clause-whole
room_for-requires-clause-whole c = (area_region (area_number c.args.area) c.in_ok-store.field-0.areas c.args.into (area_few c.args.area) c.in_ok-store.ensures.ready).whole

pub room_for-requires-clause-key : goal.room_for-requires-clause-key
room_for-requires-clause-key c = source_key _ c.in_ok-source.source.label c.in_ok-source.ensures.source.on_pack

pub room_for-requires-clause-length : goal.room_for-requires-clause-length
room_for-requires-clause-length c = source_length _ c.in_ok-source.source.label c.in_ok-source.ensures.source.on_pack

pub room_for-requires-clause-some : goal.room_for-requires-clause-some
room_for-requires-clause-some c = (takes_tracks _ c.in_ok-source.source.label c.in_ok-source.ensures.source.on_pack).some

pub write_label-requires-clause-room : goal.write_label-requires-clause-room
write_label-requires-clause-room c =
    omega (arith, ready_room c.in_ok-store.field-0.areas c.args.into c.in_ok-store.ensures.ready, ap length c.in_ok-store.ensures.same)

pub write_file-requires-clause-on_pack : goal.write_file-requires-clause-on_pack
write_file-requires-clause-on_pack c =
    subst (λ (n : ℕ). IsOfPack n c.in_ok-slot.label) (sym (c.in_ok-write_label.ensures.count ∙ ap length c.in_ok-store.ensures.same))
    (on_pack (area_number c.args.area) c.in_ok-slot.slot (length (contents_of c.args.from.items)) c.args.new_name c.in_ok-source.source.label c.in_ok-slot.label c.in_ok-source.source.bytes.items c.in_ok-store.field-0.areas c.args.into
    (area_few c.args.area) c.in_ok-slot.ensures.slot c.in_ok-store.ensures.ok c.in_ok-store.ensures.ready c.in_ok-source.ensures.source.on_pack c.know_widths.ensures.codes c.in_ok-slot.ensures.named c.know_widths.ensures.date
    c.in_ok-slot.ensures.room)

pub write_file-requires-clause-room : goal.write_file-requires-clause-room
write_file-requires-clause-room c =
    ap length c.deref.ensures.value ∙ ap length c.in_ok-source.ensures.source.has ∙ length_bytes (contents_of c.args.from.items) (sectors_of c.in_ok-source.source.label)
    ∙ ap (λ (n : ℕ). 256 * n)
    (sym (as_many (area_number c.args.area) c.in_ok-slot.slot (length (contents_of c.args.from.items)) c.args.new_name c.in_ok-source.source.label c.in_ok-slot.label c.in_ok-source.source.bytes.items c.in_ok-store.field-0.areas c.args.into
    (area_few c.args.area) c.in_ok-slot.ensures.slot c.in_ok-store.ensures.ok c.in_ok-store.ensures.ready c.in_ok-source.ensures.source.on_pack c.know_widths.ensures.codes c.in_ok-slot.ensures.named c.know_widths.ensures.date
    c.in_ok-slot.ensures.room))

pub returns-clause-copied : goal.returns-clause-copied
returns-clause-copied c =
    copy_is (contents_of c.args.from.items) (area_number c.args.from_area) c.args.name (area_number c.args.area) c.in_ok-slot.slot c.args.new_name c.in_ok-source.source.label c.in_ok-slot.label c.in_ok-source.source.bytes.items
    c.in_ok-store.field-0.areas c.args.into c.in_ok-store.field-0.store c.write_label.new.store c.write_file.new.store (area_few c.args.area) c.in_ok-slot.ensures.slot c.in_ok-source.ensures.source
    c.in_ok-store.ensures.ok c.in_ok-store.ensures.ready c.in_ok-store.ensures.same c.know_widths.ensures.codes c.in_ok-slot.ensures.named c.know_widths.ensures.date c.in_ok-slot.ensures.room
    c.in_ok-write_label.ensures.width c.in_ok-write_label.ensures.written c.in_ok-write_label.ensures.count (c.in_ok-write_file.ensures.ok ∙ c.deref.ensures.value) c.in_ok-write_file.ensures.count c.in_ok-write_file.ensures.sectors

pub returns-clause-only : goal.returns-clause-only
returns-clause-only c =
    copy_file (contents_of c.args.from.items) (area_number c.args.from_area) c.args.name (area_number c.args.area) c.in_ok-slot.slot c.args.new_name c.in_ok-source.source.label c.in_ok-slot.label c.in_ok-source.source.bytes.items
    c.in_ok-store.field-0.areas c.args.into c.in_ok-store.field-0.store c.write_label.new.store c.write_file.new.store (area_few c.args.area) c.in_ok-slot.ensures.slot c.in_ok-source.ensures.source
    c.in_ok-store.ensures.ok c.in_ok-store.ensures.ready c.in_ok-store.ensures.same c.know_widths.ensures.codes c.in_ok-slot.ensures.named c.know_widths.ensures.date c.in_ok-slot.ensures.room
    c.in_ok-write_label.ensures.width c.in_ok-write_label.ensures.written c.in_ok-write_label.ensures.count (c.in_ok-write_file.ensures.ok ∙ c.deref.ensures.value) c.in_ok-write_file.ensures.count c.in_ok-write_file.ensures.sectors

pub returns-in_err-slot-clause-refused : goal.returns-in_err-slot-clause-refused
returns-in_err-slot-clause-refused c =
    handed_on (RefusesCopy (area_number c.args.from_area) c.args.name (area_number c.args.area) c.args.new_name (contents_of c.args.from.items) c.args.into) c.from_residual-in_err-slot.result c.in_err-slot.field-0.0
    c.from_residual-in_err-slot.ensures.1
    (room_refuses (area_number c.args.from_area) c.args.name (area_number c.args.area) c.args.new_name (contents_of c.args.from.items) c.args.into c.in_ok-source.source.label c.in_ok-source.source.bytes.items
    c.in_ok-store.field-0.areas c.args.into refl c.in_ok-store.ensures.ok c.in_ok-source.ensures.source c.in_err-slot.field-0.0 c.in_err-slot.ensures.refused)
