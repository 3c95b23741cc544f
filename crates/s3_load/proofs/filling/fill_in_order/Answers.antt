use Rattle.std.proofs.Common.{◌∙◌, arith}
use Rattle.s3_slots.specs.Labels.{sectors_of}
use Rattle.s3_files.proofs.Rooms.{of_pack_room}
use Rattle.s3_load.proofs.FillLemmas.{all_filled, one_more_filled, only_more}
use Rattle.s3_load.proofs.filling.fill_in_order.Goals as goal

pub of-file-requires : goal.of-file-requires
of-file-requires c = of_pack_room _ _ c.requires

pub loop-row-preserved : goal.loop-row-preserved
loop-row-preserved c = record {
  filled =
      one_more_filled c.loop-row.file c.append_row.new.file c.args.label.now c.args.rows.now c.loop-row.row-index c.row-item.result c.args.store.now c.loop-row.store c.append_row.new.store (omega arith) c.row-item.is c.loop-row.invariant.filled
      c.in_ok-append_row.ensures.adds;
  stored = c.in_ok-append_row.ensures.stored;
  long = c.append_row.ensures.long ∙ c.loop-row.invariant.long;
  only = only_more (sectors_of c.args.label.now) c.loop-row.file.sectors c.args.store.now c.loop-row.store c.append_row.new.store c.loop-row.invariant.filled.sectors c.loop-row.invariant.only c.append_row.ensures.only;
}

pub returns-clause-records : goal.returns-clause-records
returns-clause-records c =
    all_filled c.loop-row.file c.args.label.now c.args.rows.now c.loop-row.row-index c.args.store.now c.loop-row.store (omega arith) c.loop-row.invariant.filled
