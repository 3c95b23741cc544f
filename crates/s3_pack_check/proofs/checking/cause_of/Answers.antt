use Rattle.std.proofs.Common.{Some, ap, ◌∙◌}
use Rattle.s3_labels.specs.Inner.AreaNumbers.{area_number}
use Rattle.s3_labels.proofs.AreaNumbers.{area_few}
use Rattle.s3_labels.proofs.Regions.{ready_room}
use Rattle.s3_pack_check.proofs.Files.{area_on_pack}
use Rattle.s3_pack_check.proofs.checking.cause_of.Goals as goal

pub file_cause-requires : goal.file_cause-requires
file_cause-requires g c = record {
  on_pack = area_on_pack (area_number c.args.area) c.args.areas.now (g.P.Sectors.state c.args.pool.now).contents c.from.result c.in-Sound.label (area_few c.args.area) (c.slot.ensures ∙ ap (λ s. Some s) c.in-Sound.is) c.requires.ready;
}

pub read_slot-requires-clause-room : goal.read_slot-requires-clause-room
read_slot-requires-clause-room g c = ready_room c.args.areas.now (g.P.Sectors.state c.args.pool.now).contents c.requires.ready
