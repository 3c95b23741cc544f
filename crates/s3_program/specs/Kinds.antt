-- The kinds of the names in factor 1 and factor 2 of each operation: field, file, tag or subroutine.
use Rattle.std.specs.Prelude.{Option, Some}
use Rattle.s3_lines.specs.declared.sheet.InputLine.TheVariants.{Field}
use Rattle.s3_lines.specs.declared.sheet.Operation.{Operation}
use Rattle.s3_lines.specs.declared.sheet.Operation.TheVariants as op
use Rattle.s3_program.specs.declared.program.Kind.{Kind}
use Rattle.s3_program.specs.declared.program.Kind.TheVariants as kind

-- ---- the kind of each factor
abbrev pub first_kind : Option Operation → Kind
first_kind (Some op.Tag) = kind.Tag
first_kind (Some op.BeginSubroutine) = kind.Subroutine
first_kind _ = kind.Field

abbrev pub second_kind : Option Operation → Kind
second_kind (Some op.GoTo) = kind.Tag
second_kind (Some op.ExecuteSubroutine) = kind.Subroutine
second_kind (Some op.Chain) = kind.File
second_kind _ = kind.Field
