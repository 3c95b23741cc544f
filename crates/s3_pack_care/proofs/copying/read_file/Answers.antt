use Rattle.std.proofs.Common.{sym, ap, ◌∙◌}
use Rattle.s3_slots.specs.Slots.{standing}
use Rattle.s3_labels.specs.Inner.AreaNumbers.{area_number}
use Rattle.s3_labels.proofs.AreaNumbers.{area_few}
use Rattle.s3_pack_care.proofs.Copies.{on_pack_by_name, source_read}
use Rattle.s3_pack_care.proofs.Refusals.{source_absent, source_blocked}
use Rattle.s3_pack_care.proofs.copying.read_file.Goals as goal

pub file_bytes-requires : goal.file_bytes-requires
file_bytes-requires c = record {
  on_pack = on_pack_by_name (area_number c.args.area) c.args.areas.now c.args.store.now c.args.name c.in-Present.label (area_few c.args.area) (sym (c.standing_of.ensures ∙ ap (standing c.args.name) c.slots_of.ensures.slots) ∙ c.in-Present.is) c.requires.ready;
}

pub returns-in-Ok-clause-source : goal.returns-in-Ok-clause-source
returns-in-Ok-clause-source c =
    source_read (area_number c.args.area) c.args.areas.now c.args.store.now c.args.name c.in-Present.label c.in-Ok.bytes.items c.slots_of.result.now c.standing_of.result (area_few c.args.area) c.slots_of.ensures.slots c.standing_of.ensures
    c.in-Present.is c.requires.mounted c.requires.ready c.in-Ok.ensures.ok

pub returns-in-Absent-clause-refused : goal.returns-in-Absent-clause-refused
returns-in-Absent-clause-refused c =
    source_absent (area_number c.args.area) c.args.areas.now c.args.store.now c.args.name c.slots_of.result.now c.standing_of.result c.slots_of.ensures.slots c.standing_of.ensures c.in-Absent.is c.requires.mounted

pub returns-in-Blocked-clause-refused : goal.returns-in-Blocked-clause-refused
returns-in-Blocked-clause-refused c =
    source_blocked (area_number c.args.area) c.args.areas.now c.args.store.now c.args.name c.slots_of.result.now c.standing_of.result c.slots_of.ensures.slots c.standing_of.ensures c.in-Blocked.is c.requires.mounted
