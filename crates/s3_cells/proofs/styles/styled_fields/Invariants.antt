use Rattle.std.proofs.Common.{◌≡◌, map, take}
use Rattle.std.specs.List.{All}
use Rattle.s3_cells.specs.Inner.Fields.{LiesIn}
use Rattle.s3_cells.specs.Inner.Styles.{form_of, form_styled}
use Rattle.s3_cells.proofs.styles.styled_fields.Given as goal

abbrev pub invariant-loop-field : goal.invariant-loop-field
invariant-loop-field l = record {
  within : All (LiesIn l.record_length) l.styled.items;
  forms : map form_of l.styled.items ≡ map (form_styled l.cells) (take l.field-index l.fields);
}
