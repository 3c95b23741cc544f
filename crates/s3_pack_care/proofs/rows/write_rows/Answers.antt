use Rattle.std.proofs.Common.{map, slice_set, sym, ap, ◌∙◌, arith}
use Rattle.std.proofs.lemmas.List.{length-map}
use Rattle.s3_store.specs.Bytes.{bytes_at}
use Rattle.s3_files.specs.Inner.Files.{records}
use Rattle.s3_files.proofs.RecordLemmas.{length_records}
use Rattle.s3_pack_care.specs.Inner.Rows.{shape_of}
use Rattle.s3_pack_care.specs.declared.rows.Row.{Row}
use Rattle.s3_pack_care.proofs.RowLemmas.{got_map, put_all, put_more}
use Rattle.s3_pack_care.proofs.rows.write_rows.Goals as goal

pub loop-i-preserved : goal.loop-i-preserved
loop-i-preserved c = record {
  done =
      c.in_ok-put_row.ensures.ok ∙ ap (λ l. slice_set l c.loop-i.i c.row_of.result.now.bytes.items) c.loop-i.invariant.done
      ∙ put_more c.loop-i.i (records (shape_of c.args.file.now) c.args.store.now) (map (λ (row : Row). row.bytes.items) c.args.rows.now) c.row_of.result.now.bytes.items
      (length_records c.args.file.now.record_length c.args.file.now.count (bytes_at c.args.file.now.sectors c.args.store.now) ∙ sym (length-map c.args.rows.now (λ (row : Row). row.bytes.items) ∙ c.requires.many))
      (got_map (λ (row : Row). row.bytes.items) c.args.rows.now c.loop-i.i c.row_of.result.now c.row_of.ensures);
  tail = c.in_ok-put_row.ensures.tail ∙ c.loop-i.invariant.tail;
  count = c.in_ok-put_row.ensures.count ∙ c.loop-i.invariant.count;
  others = λ n out. c.in_ok-put_row.ensures.others n out ∙ c.loop-i.invariant.others n out;
}

pub returns-clause-ok : goal.returns-clause-ok
returns-clause-ok c =
    let olds = length_records c.args.file.now.record_length c.args.file.now.count (bytes_at c.args.file.now.sectors c.args.store.now) in
    let news = length-map c.args.rows.now (λ (row : Row). row.bytes.items) in
    c.loop-i.invariant.done
    ∙ put_all c.loop-i.i (records (shape_of c.args.file.now) c.args.store.now) (map (λ (row : Row). row.bytes.items) c.args.rows.now)
    (omega (arith, olds, c.loop-i-test.false, c.len-i-end.ensures)) (omega (arith, news, c.requires.many, c.loop-i-test.false, c.len-i-end.ensures))
