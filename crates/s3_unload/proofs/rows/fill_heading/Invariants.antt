use Rattle.std.proofs.Common.{◌≡◌, [], map, take}
use Rattle.csv.specs.Records.{fields_of, partial_of}
use Rattle.s3_cells.specs.declared.field.Field.{Field}
use Rattle.s3_unload.specs.Inner.Tables.{name_text}
use Rattle.s3_unload.proofs.rows.fill_heading.Given as goal

abbrev pub invariant-loop-field : goal.invariant-loop-field
invariant-loop-field l = record {
  row : fields_of l.row ≡ map (λ (field : Field). name_text field.name) (take l.field-index l.fields);
  whole : partial_of l.row ≡ [];
}
