-- Lines whose fields have lengths within the allowed ranges.
use Rattle.std.specs.Prelude.{Bool, true, List}
use Rattle.std.specs.List.{list_all}
use Rattle.s3_lines.specs.declared.sheet.FieldLine.{FieldLine}
use Rattle.s3_lines.specs.declared.sheet.InputLine.{InputLine}
use Rattle.s3_lines.specs.declared.sheet.InputLine.TheVariants.{Field as FieldOfRecord}
use Rattle.s3_lines.specs.declared.sheet.SheetLine.{SheetLine}
use Rattle.s3_lines.specs.declared.sheet.SheetLine.TheVariants as sheet
use Rattle.s3_lines.specs.declared.sheet.Line.{Line}
use Rattle.s3_lines.specs.Ranges.{shape_in_range}
use Rattle.s3_program.specs.Redefined.{shape_of_field}
use Rattle.s3_diagnose.specs.declared.standing.MeantLine.{MeantLine}
use Rattle.s3_diagnose.specs.declared.standing.MeantLine.TheVariants as meant

abbrev pub is_ranged_field : {N : Type 0} → FieldLine N → Bool
is_ranged_field field = shape_in_range (shape_of_field field)

abbrev pub is_ranged_input : {N : Type 0} → InputLine N → Bool
is_ranged_input (FieldOfRecord field) = is_ranged_field field
is_ranged_input _ = true

abbrev pub is_ranged : SheetLine → Bool
is_ranged (sheet.Input line) = is_ranged_input line
is_ranged _ = true

abbrev pub is_ranged_meant : MeantLine → Bool
is_ranged_meant (meant.Input line) = is_ranged_input line
is_ranged_meant _ = true

abbrev pub are_ranged : List Line → Bool
are_ranged lines = list_all (λ line. is_ranged line.sheet) lines
