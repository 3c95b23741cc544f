use Rattle.s3_cells.proofs.Cells.{on_ok, takes}
use Rattle.s3_cells.proofs.field.Field.take.Goals as goal

pub returns-clause-ok : goal.returns-clause-ok
returns-clause-ok c =
    on_ok c.take_into.result _ _ c.take_into.ensures.ok
    (takes c.args.self.now c.args.cell.now c.args.record_bytes.now c.take_into.new.bytes c.from-start.result c.from.result c.from-start.ensures c.from.ensures c.requires c.take_into.auto.bytes)
