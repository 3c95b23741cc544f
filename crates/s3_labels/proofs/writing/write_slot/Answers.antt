use Rattle.std.proofs.Common.{arith}
use Rattle.s3_labels.specs.Inner.AreaNumbers.{area_number}
use Rattle.s3_labels.proofs.Parts.{slot_changed, others_stay}
use Rattle.s3_labels.proofs.writing.write_slot.Goals as goal

pub returns-clause-written : goal.returns-clause-written
returns-clause-written g c =
    slot_changed (area_number c.args.area) c.args.i c.from.result (g.P.Sectors.state c.args.pool.now).contents (g.P.Sectors.state c.change_sector.new.self).contents c.args.bytes.now
    (omega (arith, c.label_sector.ensures.value, c.label_sector.ensures.few, c.requires.room)) c.told-bytes c.from.ensures _ (rw c.label_sector.ensures.value at c.change_sector.ensures.ok)

pub returns-clause-others : goal.returns-clause-others
returns-clause-others g c =
    others_stay (area_number c.args.area) c.args.i c.from.result (g.P.Sectors.state c.args.pool.now).contents (g.P.Sectors.state c.change_sector.new.self).contents c.args.bytes.now
    (omega (arith, c.label_sector.ensures.value, c.label_sector.ensures.few, c.requires.room)) c.told-bytes c.from.ensures _ (rw c.label_sector.ensures.value at c.change_sector.ensures.ok) c.change_sector.ensures.err
