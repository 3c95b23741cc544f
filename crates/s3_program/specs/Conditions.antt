-- The conditions of diagnostics 5 to 12 for a line at its place.
use Rattle.std.specs.Prelude.{ℕ, ◌+◌, ◌==◌, Bool, false, List, [], ◌∷◌, Option, if◌then◌else◌}
use Rattle.std.specs.Map.{lookup}
use Rattle.s3_cards.specs.declared.name.Name.{Name}
use Rattle.s3_cards.specs.Names.{same_name}
use Rattle.s3_lines.specs.declared.sheet.FileLine.{FileLine}
use Rattle.s3_lines.specs.declared.sheet.InputLine.{InputLine}
use Rattle.s3_lines.specs.declared.sheet.CalculationLine.{CalculationLine}
use Rattle.s3_lines.specs.declared.sheet.OutputLine.{OutputLine}
use Rattle.s3_program.specs.declared.program.Meaning.{Meaning}
use Rattle.s3_program.specs.declared.call.Call.{Call}
use Rattle.s3_program.specs.declared.standing.FileStanding.{FileStanding}
use Rattle.s3_program.specs.declared.standing.InputStanding.{InputStanding}
use Rattle.s3_program.specs.declared.standing.CalculationStanding.{CalculationStanding}
use Rattle.s3_program.specs.declared.standing.OutputStanding.{OutputStanding}
use Rattle.s3_program.specs.Standings.{first_calculation}
use Rattle.s3_program.specs.Undefined.{input_undefined, calculation_undefined, output_undefined}
use Rattle.s3_program.specs.Redefined.{file_redefined, input_redefined, calculation_redefined}
use Rattle.s3_program.specs.Indications.{input_misindicated, calculation_misindicated}
use Rattle.s3_program.specs.Operands.{input_unfit, calculation_unfit, output_unfit}
use Rattle.s3_program.specs.Places.{Verb, is_cut_by, input_misplaced, calculation_misplaced, output_misplaced}
use Rattle.s3_program.specs.Jumps.{calls_from, is_forbidden, calculation_strays}
use Rattle.s3_program.specs.Matching.{Marks, has_type, input_mismatched}
use Rattle.s3_program.specs.Uses.{file_misused, input_misused, output_misused}

-- the conditions of a File Description line; `first` gives the place of the first file of a name
abbrev pub file_holds : (first : Name → Option ℕ) → FileStanding → FileLine → ℕ → Bool
file_holds first at file number =
    if number == 6 then file_redefined first at file
    else if number == 12 then file_misused at file
    else false

-- the conditions of an Input line; `marks` has the match and control fields of the whole source
abbrev pub input_holds : Marks → InputStanding → InputLine Meaning → ℕ → Bool
input_holds marks at line number =
    if number == 5 then input_undefined line
    else if number == 6 then input_redefined line
    else if number == 7 then input_misindicated (has_type marks.is_type at.group) line
    else if number == 8 then input_unfit line
    else if number == 9 then input_misplaced at line
    else if number == 11 then input_mismatched marks at line
    else if number == 12 then input_misused at line
    else false

-- the conditions of a calculation line; `forbidden` tests a call, and `later` has the lines after it
abbrev pub calculation_holds : (Call → Bool) → CalculationStanding → List Verb → CalculationLine Meaning → ℕ → Bool
calculation_holds forbidden at later line number =
    if number == 5 then calculation_undefined line
    else if number == 6 then calculation_redefined at line
    else if number == 7 then calculation_misindicated line
    else if number == 8 then calculation_unfit (is_cut_by later) line
    else if number == 9 then calculation_misplaced at later line
    else if number == 10 then calculation_strays forbidden at line
    else false

abbrev pub output_holds : OutputStanding → OutputLine Meaning → ℕ → Bool
output_holds at line number =
    if number == 5 then output_undefined at line
    else if number == 8 then output_unfit line
    else if number == 9 then output_misplaced at line
    else if number == 12 then output_misused at line
    else false

-- ---- a program whose lines have no diagnostics
abbrev pub numbers : List ℕ
numbers = 5 ∷ 6 ∷ 7 ∷ 8 ∷ 9 ∷ 10 ∷ 11 ∷ 12 ∷ []

abbrev pub verb_of : {N : Type 0} → CalculationLine N → Verb
verb_of line = (line.time, line.operation)

-- the names of files with the places of their lines
abbrev pub file_places : (place : ℕ) → List FileLine → List (Name × ℕ)
file_places place [] = []
file_places place (file ∷ files) = (file.name, place) ∷ file_places (place + 1) files

-- the place of the first file of a name
abbrev pub first_file_of : List FileLine → Name → Option ℕ
first_file_of files name = lookup (same_name name) (file_places 0 files)

-- whether a call is forbidden, among all calls of the program
unfoldable pub forbidden_among : List (CalculationLine Meaning) → Call → Bool
forbidden_among lines call = is_forbidden (calls_from first_calculation lines) call
