-- The diagnostics of a source: each line with each number whose condition holds for it, in order.
use Rattle.std.specs.Prelude.{ℕ, ◌==◌, nat_lt, Bool, false, ◌&&◌, ◌||◌, List, [], ◌∷◌, ◌++◌, map, filter, filter_map, if◌then◌else◌}
use Rattle.s3_lines.specs.declared.diagnostic.Diagnostic.{Diagnostic}
use Rattle.std.specs.List.{count_by}
use Rattle.s3_lines.specs.declared.sheet.Designation.TheVariants.{Primary}
use Rattle.s3_lines.specs.declared.sheet.SheetLine.{SheetLine}
use Rattle.s3_lines.specs.declared.sheet.SheetLine.TheVariants.{File}
use Rattle.s3_lines.specs.declared.sheet.Line.{Line}
use Rattle.s3_lines.specs.Files.{is_designated}
use Rattle.s3_meaning.specs.Source.{calculation_line}
use Rattle.s3_program.specs.Places.{Verb}
use Rattle.s3_program.specs.Conditions.{numbers, verb_of, file_holds, input_holds, calculation_holds, output_holds}
use Rattle.s3_diagnose.specs.declared.standing.MeantLine.{MeantLine}
use Rattle.s3_diagnose.specs.declared.standing.MeantLine.TheVariants as meant
use Rattle.s3_diagnose.specs.declared.standing.Standing.{Standing}
use Rattle.s3_diagnose.specs.Known.{meant_line, first_standing, behind}
use Rattle.s3_diagnose.specs.Lookups.{Known, known_of}

-- the calculation lines of a source, in the form that their places need
abbrev pub verbs : List Line → List Verb
verbs lines = map verb_of (filter_map calculation_line lines)

-- the condition of a number for a line at its place, given what the whole source defines and the lines after it
abbrev pub line_holds : Known → Standing → List Line → MeantLine → ℕ → Bool
line_holds known at later meant.Header number = false
line_holds known at later (meant.File file) number = file_holds known.first_file at.files file number
line_holds known at later (meant.Input line) number = input_holds known.marks at.inputs line number
line_holds known at later (meant.Calculation line) number = calculation_holds known.forbidden at.calculations (verbs later) line number
line_holds known at later (meant.Output line) number = output_holds at.outputs line number

abbrev pub diagnostic_of : (card : ℕ) → ℕ → Diagnostic
diagnostic_of card number = record { card = card; number = number }

-- the diagnostics of a line, for those of these numbers whose condition holds
abbrev pub found_on : Known → Standing → List Line → (card : ℕ) → MeantLine → List ℕ → List Diagnostic
found_on known at later card line numbers = map (diagnostic_of card) (filter (line_holds known at later line) numbers)

abbrev pub diagnostics_from : Known → Standing → List Line → List Diagnostic
diagnostics_from known at [] = []
diagnostics_from known at (line ∷ lines) =
    found_on known at lines line.card (meant_line known.meanings line.sheet) numbers
    ++ diagnostics_from known (behind at (meant_line known.meanings line.sheet)) lines

-- order by card, then by number
abbrev pub precedes : Diagnostic → Diagnostic → Bool
precedes a b = nat_lt a.card b.card || ((a.card == b.card) && nat_lt a.number b.number)

-- inserts a diagnostic at its place; an equal one isn't repeated
abbrev pub placed : List Diagnostic → Diagnostic → List Diagnostic
placed found diagnostic =
    filter (λ other. precedes other diagnostic) found ++ diagnostic ∷ filter (λ other. precedes diagnostic other) found

abbrev pub is_primary_line : Line → Bool
is_primary_line line = on line.sheet
  where
    on : SheetLine → Bool
    on (File file) = is_designated Primary file
    on _ = false

abbrev pub has_one_primary : List Line → Bool
has_one_primary lines = count_by is_primary_line lines == 1

-- a program must have exactly one primary file; otherwise its RUN card gets diagnostic 12
abbrev pub completed : (run_card : ℕ) → List Line → List Diagnostic → List Diagnostic
completed run_card lines found = if has_one_primary lines then found else placed found (diagnostic_of run_card 12)

unfoldable pub compile_diagnostics : (run_card : ℕ) → List Line → List Diagnostic
compile_diagnostics run_card lines = completed run_card lines (diagnostics_from (known_of lines) first_standing lines)
