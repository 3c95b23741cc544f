use Rattle.std.proofs.Common.{◌≡◌, [], true, map, take}
use Rattle.std.specs.List.{list_all}
use Rattle.csv.specs.Records.{fields_of, partial_of}
use Rattle.s3_cells.specs.Inner.Fields.{cell_of, is_shown}
use Rattle.s3_unload.proofs.rows.fill_row.Given as goal

abbrev pub invariant-loop-field : goal.invariant-loop-field
invariant-loop-field l = record {
  row : fields_of l.row ≡ map (λ field. cell_of field l.bytes) (take l.field-index l.fields);
  whole : partial_of l.row ≡ [];
  shown : list_all (λ field. is_shown field l.bytes) (take l.field-index l.fields) ≡ true;
}
