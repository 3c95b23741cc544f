-- The lines of a source with their places, and the meanings of their names.
use Rattle.s3_cards.specs.declared.name.Name.{Name}
use Rattle.s3_lines.specs.declared.sheet.InputLine.{InputLine}
use Rattle.s3_lines.specs.declared.sheet.CalculationLine.{CalculationLine}
use Rattle.s3_lines.specs.declared.sheet.OutputLine.{OutputLine}
use Rattle.s3_lines.specs.declared.sheet.SheetLine.{SheetLine}
use Rattle.s3_lines.specs.declared.sheet.SheetLine.TheVariants as sheet
use Rattle.s3_program.specs.declared.program.Kind.{Kind}
use Rattle.s3_program.specs.declared.program.Kind.TheVariants as kind
use Rattle.s3_program.specs.declared.program.Meaning.{Meaning}
use Rattle.s3_program.specs.Lines.{map_input, map_calculation, map_output}
use Rattle.s3_program.specs.Kinds.{first_kind, second_kind}
use Rattle.s3_program.specs.Standings.{first_file, behind_file, first_input, behind_input, first_calculation, behind_calculation, first_output, behind_output}
use Rattle.s3_diagnose.specs.declared.standing.MeantLine.{MeantLine}
use Rattle.s3_diagnose.specs.declared.standing.MeantLine.TheVariants as meant
use Rattle.s3_diagnose.specs.declared.standing.Standing.{Standing}

-- ---- the meaning of a name, by the kind of name
abbrev pub Meanings : Type 0
Meanings = Kind → Name → Meaning

abbrev pub meant_input : Meanings → InputLine Name → InputLine Meaning
meant_input meanings line = map_input (meanings kind.File) (meanings kind.Field) line

abbrev pub meant_calculation : Meanings → CalculationLine Name → CalculationLine Meaning
meant_calculation meanings line =
    map_calculation (meanings (first_kind line.operation)) (meanings (second_kind line.operation)) (meanings kind.Field) line

abbrev pub meant_output : Meanings → OutputLine Name → OutputLine Meaning
meant_output meanings line = map_output (meanings kind.File) (meanings kind.Field) line

abbrev pub meant_line : Meanings → SheetLine → MeantLine
meant_line meanings (sheet.Header name) = meant.Header
meant_line meanings (sheet.File file) = meant.File file
meant_line meanings (sheet.Input line) = meant.Input (meant_input meanings line)
meant_line meanings (sheet.Calculation line) = meant.Calculation (meant_calculation meanings line)
meant_line meanings (sheet.Output line) = meant.Output (meant_output meanings line)

-- ---- places
abbrev pub first_standing : Standing
first_standing = record { files = first_file; inputs = first_input; calculations = first_calculation; outputs = first_output }

abbrev pub behind : Standing → MeantLine → Standing
behind at meant.Header = at
behind at (meant.File file) = record { files = behind_file at.files file; inputs = at.inputs; calculations = at.calculations; outputs = at.outputs }
behind at (meant.Input line) = record { files = at.files; inputs = behind_input at.inputs line; calculations = at.calculations; outputs = at.outputs }
behind at (meant.Calculation line) =
    record { files = at.files; inputs = at.inputs; calculations = behind_calculation at.calculations line; outputs = at.outputs }
behind at (meant.Output line) = record { files = at.files; inputs = at.inputs; calculations = at.calculations; outputs = behind_output at.outputs line }
