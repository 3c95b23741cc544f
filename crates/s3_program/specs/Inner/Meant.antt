-- The lines of a source or program, with the meaning of each name or slot in its place.
use Rattle.std.specs.Prelude.{Bool, true, false, ◌&&◌, List, Option, Some, None}
use Rattle.std.specs.List.{list_all}
use Rattle.s3_lines.specs.declared.sheet.FileLine.{FileLine}
use Rattle.s3_lines.specs.declared.sheet.InputLine.{InputLine}
use Rattle.s3_lines.specs.declared.sheet.InputLine.TheVariants.{Record, Field}
use Rattle.s3_lines.specs.declared.sheet.Factor.{Factor}
use Rattle.s3_lines.specs.declared.sheet.Factor.TheVariants.{Named}
use Rattle.s3_lines.specs.declared.sheet.CalculationLine.{CalculationLine}
use Rattle.s3_lines.specs.declared.sheet.OutputContent.{OutputContent}
use Rattle.s3_lines.specs.declared.sheet.OutputContent.TheVariants.{Constant as ConstantContent, Field as FieldContent}
use Rattle.s3_lines.specs.declared.sheet.OutputLine.{OutputLine}
use Rattle.s3_lines.specs.declared.sheet.OutputLine.TheVariants.{Line as LineCard, Field as FieldCard}
use Rattle.s3_program.specs.declared.program.Kind.{Kind}
use Rattle.s3_program.specs.declared.program.Kind.TheVariants as kind
use Rattle.s3_program.specs.declared.program.Meaning.{Meaning}
use Rattle.s3_program.specs.declared.program.Meaning.TheVariants as a
use Rattle.s3_program.specs.Kinds.{first_kind, second_kind}

pub record Meant : Type 0 where
  pub files : List FileLine
  pub inputs : List (InputLine Meaning)
  pub calculations : List (CalculationLine Meaning)
  pub outputs : List (OutputLine Meaning)

-- ---- definedness, and kinds
abbrev pub is_defined : Meaning → Bool
is_defined a.Undefined = false
is_defined _ = true

abbrev pub is_of : Kind → Meaning → Bool
is_of kind.File (a.File file) = true
is_of kind.Field (a.Field field) = true
is_of kind.Tag (a.Tag tag) = true
is_of kind.Subroutine (a.Subroutine subroutine) = true
is_of _ _ = false

-- all names of a line pass a test that depends on their kind
abbrev pub factor_passes : (Meaning → Bool) → Option (Factor Meaning) → Bool
factor_passes test (Some (Named meaning)) = test meaning
factor_passes test _ = true

abbrev pub entry_passes : (Meaning → Bool) → Option Meaning → Bool
entry_passes test (Some meaning) = test meaning
entry_passes test None = true

abbrev pub input_passes : (Kind → Meaning → Bool) → InputLine Meaning → Bool
input_passes test (Record file indicator codes) = test kind.File file
input_passes test (Field line) = test kind.Field line.name
input_passes test _ = true

abbrev pub calculation_passes : (Kind → Meaning → Bool) → CalculationLine Meaning → Bool
calculation_passes test line =
    factor_passes (test (first_kind line.operation)) line.factor1
    && factor_passes (test (second_kind line.operation)) line.factor2
    && entry_passes (test kind.Field) line.result

abbrev pub content_passes : (Kind → Meaning → Bool) → OutputContent Meaning → Bool
content_passes test (FieldContent output) = test kind.Field output.name
content_passes test (ConstantContent constant) = true

abbrev pub output_passes : (Kind → Meaning → Bool) → OutputLine Meaning → Bool
output_passes test (LineCard card) = entry_passes (test kind.File) card.file
output_passes test (FieldCard field) = content_passes test field.content
output_passes test _ = true

abbrev pub all_pass : (Kind → Meaning → Bool) → Meant → Bool
all_pass test lines = list_all (input_passes test) lines.inputs && list_all (calculation_passes test) lines.calculations && list_all (output_passes test) lines.outputs

-- all names of the lines are defined
unfoldable pub are_defined : Meant → Bool
are_defined lines = all_pass (λ kind meaning. is_defined meaning) lines

-- all names have the kind that their entry requires
unfoldable pub are_of_kinds : Meant → Bool
are_of_kinds lines = all_pass is_of lines
