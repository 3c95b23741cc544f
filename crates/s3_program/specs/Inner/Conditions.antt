-- Lines for which no condition of 5 to 12 holds, by kind of specification, with exactly one primary file.
use Rattle.std.specs.Prelude.{ℕ, Bool, true, not, ◌&&◌, List, [], ◌∷◌, Option, map}
use Rattle.std.specs.List.{list_any}
use Rattle.s3_cards.specs.declared.name.Name.{Name}
use Rattle.s3_lines.specs.declared.sheet.FileLine.{FileLine}
use Rattle.s3_lines.specs.declared.sheet.InputLine.{InputLine}
use Rattle.s3_lines.specs.declared.sheet.CalculationLine.{CalculationLine}
use Rattle.s3_lines.specs.declared.sheet.OutputLine.{OutputLine}
use Rattle.s3_program.specs.declared.program.Meaning.{Meaning}
use Rattle.s3_program.specs.declared.call.Call.{Call}
use Rattle.s3_program.specs.declared.standing.FileStanding.{FileStanding}
use Rattle.s3_program.specs.declared.standing.InputStanding.{InputStanding}
use Rattle.s3_program.specs.declared.standing.CalculationStanding.{CalculationStanding}
use Rattle.s3_program.specs.declared.standing.OutputStanding.{OutputStanding}
use Rattle.s3_program.specs.Standings.{first_file, behind_file, first_input, behind_input, first_calculation, behind_calculation, first_output, behind_output}
use Rattle.s3_program.specs.Matching.{Marks, marks_of}
use Rattle.s3_program.specs.Inner.Uses.{has_one_primary}
use Rattle.s3_program.specs.Conditions.{file_holds, input_holds, calculation_holds, output_holds, numbers, verb_of, first_file_of, forbidden_among}

-- no condition holds
abbrev pub is_clear : (ℕ → Bool) → Bool
is_clear holds = not (list_any holds numbers)

abbrev pub files_clear : (Name → Option ℕ) → FileStanding → List FileLine → Bool
files_clear first at [] = true
files_clear first at (file ∷ files) = is_clear (file_holds first at file) && files_clear first (behind_file at file) files

abbrev pub inputs_clear : Marks → InputStanding → List (InputLine Meaning) → Bool
inputs_clear marks at [] = true
inputs_clear marks at (line ∷ lines) = is_clear (input_holds marks at line) && inputs_clear marks (behind_input at line) lines

abbrev pub calculations_clear : (Call → Bool) → CalculationStanding → List (CalculationLine Meaning) → Bool
calculations_clear forbidden at [] = true
calculations_clear forbidden at (line ∷ lines) =
    is_clear (calculation_holds forbidden at (map verb_of lines) line) && calculations_clear forbidden (behind_calculation at line) lines

abbrev pub outputs_clear : OutputStanding → List (OutputLine Meaning) → Bool
outputs_clear at [] = true
outputs_clear at (line ∷ lines) = is_clear (output_holds at line) && outputs_clear (behind_output at line) lines

unfoldable pub are_clear : List FileLine → List (InputLine Meaning) → List (CalculationLine Meaning) → List (OutputLine Meaning) → Bool
are_clear files inputs calculations outputs =
    has_one_primary files
    && files_clear (first_file_of files) first_file files
    && inputs_clear (marks_of inputs) first_input inputs
    && calculations_clear (forbidden_among calculations) first_calculation calculations
    && outputs_clear first_output outputs
