-- Positions within records, and entries in range, on lines with meanings.
use Rattle.std.specs.Prelude.{ℕ, Bool, true, ◌&&◌, List, [], ◌∷◌, Option, Some, None}
use Rattle.std.specs.List.{list_all}
use Rattle.s3_lines.specs.declared.sheet.InputLine.{InputLine}
use Rattle.s3_lines.specs.declared.sheet.InputLine.TheVariants.{Record, And as AndCodes, Or as OrCodes, Field as InputField}
use Rattle.s3_lines.specs.declared.sheet.OutputLine.{OutputLine}
use Rattle.s3_lines.specs.declared.sheet.OutputLine.TheVariants.{Line as LineCard, Field as OutputField}
use Rattle.s3_lines.specs.Inner.Ranges.{is_within, codes_within, file_in_range, input_in_range, calculation_in_range, output_in_range}
use Rattle.s3_program.specs.declared.program.Meaning.{Meaning}
use Rattle.s3_program.specs.declared.program.Meaning.TheVariants as a
use Rattle.s3_program.specs.Inner.Meant.{Meant}

-- the record length of a file
abbrev pub record_length : Meaning → Option ℕ
record_length (a.File file) = Some file.record_length
record_length _ = None

-- ---- Input specifications: the record length for the field lines after a line
abbrev pub input_length_behind : Option ℕ → InputLine Meaning → Option ℕ
input_length_behind last (Record file indicator codes) = record_length file
input_length_behind last _ = last

abbrev pub input_within : Option ℕ → InputLine Meaning → Bool
input_within last (Record file indicator codes) = codes_within (record_length file) codes
input_within last (AndCodes codes) = codes_within last codes
input_within last (OrCodes indicator codes) = codes_within last codes
input_within last (InputField field) = is_within last field.to

unfoldable pub inputs_within : Option ℕ → List (InputLine Meaning) → Bool
inputs_within last [] = true
inputs_within last (line ∷ lines) = input_within last line && inputs_within (input_length_behind last line) lines

-- ---- Output specifications: a line card without a name has the file of the previous line
abbrev pub output_length_behind : Option ℕ → OutputLine Meaning → Option ℕ
output_length_behind last (LineCard card) = on card.file
  where
    on : Option Meaning → Option ℕ
    on (Some file) = record_length file
    on None = last
output_length_behind last _ = last

abbrev pub output_within : Option ℕ → OutputLine Meaning → Bool
output_within last (OutputField field) = is_within last field.end
output_within last _ = true

unfoldable pub outputs_within : Option ℕ → List (OutputLine Meaning) → Bool
outputs_within last [] = true
outputs_within last (line ∷ lines) = output_within last line && outputs_within (output_length_behind last line) lines

-- ---- all lines
unfoldable pub are_within : Meant → Bool
are_within lines = inputs_within None lines.inputs && outputs_within None lines.outputs

unfoldable pub are_in_range : Meant → Bool
are_in_range lines =
    list_all file_in_range lines.files
    && list_all input_in_range lines.inputs
    && list_all calculation_in_range lines.calculations
    && list_all output_in_range lines.outputs
