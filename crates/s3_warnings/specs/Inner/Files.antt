-- Files that a program has for reading and never reads, or for writing and never writes to.
use Rattle.std.specs.Prelude.{ℕ, Bool, false, not, ◌&&◌, ◌||◌, List, [], ◌++◌, Option, Some, None}
use Rattle.std.specs.List.{list_any}
use Rattle.s3_cards.specs.declared.name.Name.{Name}
use Rattle.s3_cards.specs.Names.{same_name}
use Rattle.s3_lines.specs.Files.{is_output_use, is_chained, is_only_read}
use Rattle.s3_lines.specs.declared.sheet.CalculationLine.{CalculationLine}
use Rattle.s3_lines.specs.declared.sheet.Factor.{Factor}
use Rattle.s3_lines.specs.declared.sheet.Factor.TheVariants.{Named}
use Rattle.s3_lines.specs.declared.sheet.FileLine.{FileLine}
use Rattle.s3_lines.specs.declared.sheet.InputLine.TheVariants.{Record}
use Rattle.s3_lines.specs.declared.sheet.Operation.{Operation}
use Rattle.s3_lines.specs.declared.sheet.Operation.TheVariants.{Chain}
use Rattle.s3_lines.specs.declared.sheet.OutputLine.TheVariants.{Line as LineCard}
use Rattle.s3_lines.specs.declared.sheet.SheetLine.{SheetLine}
use Rattle.s3_lines.specs.declared.sheet.SheetLine.TheVariants.{File, Input, Calculation, Output}
use Rattle.s3_lines.specs.declared.sheet.Line.{Line}
use Rattle.s3_warnings.specs.declared.kinds.Warning.{Warning}
use Rattle.s3_warnings.specs.declared.kinds.WarningKind.TheVariants.{NeverRead, NeverWritten}
use Rattle.s3_warnings.specs.Inner.Marking.{warning, warned_if}

-- ---- what a line does with the file of a name
-- a record line, which begins a type of its records
abbrev pub describes : Name → SheetLine → Bool
describes name (Input (Record file indicator codes)) = same_name file name
describes name _ = false

-- a CHAIN
abbrev pub is_named : Name → Option (Factor Name) → Bool
is_named name (Some (Named file)) = same_name file name
is_named name _ = false

abbrev pub chains_by : Name → CalculationLine Name → Bool
chains_by name line = on line.operation
  where
    on : Option Operation → Bool
    on (Some Chain) = is_named name line.factor2
    on _ = false

abbrev pub chains : Name → SheetLine → Bool
chains name (Calculation line) = chains_by name line
chains name _ = false

-- an output line; one without a name goes to the file of a line that has it
abbrev pub is_name_of : Name → Option Name → Bool
is_name_of name (Some file) = same_name file name
is_name_of name None = false

abbrev pub writes : Name → SheetLine → Bool
writes name (Output (LineCard card)) = is_name_of name card.file
writes name _ = false

-- .. and whether some line does
abbrev pub is_described : List Line → Name → Bool
is_described lines name = list_any (λ line. describes name line.sheet) lines

abbrev pub is_chained_to : List Line → Name → Bool
is_chained_to lines name = list_any (λ line. chains name line.sheet) lines

abbrev pub is_written_to : List Line → Name → Bool
is_written_to lines name = list_any (λ line. writes name line.sheet) lines

-- ---- warnings
-- no type of its records is described, or no CHAIN reads a file that only CHAIN reads
abbrev pub is_never_read : List Line → FileLine → Bool
is_never_read lines file =
    not (is_output_use file.usage)
    && (not (is_described lines file.name) || (is_chained file.designation && not (is_chained_to lines file.name)))

-- a direct load makes its records without any output line
abbrev pub is_direct_load : FileLine → Bool
is_direct_load file = is_output_use file.usage && is_chained file.designation

abbrev pub is_never_written : List Line → FileLine → Bool
is_never_written lines file = not (is_only_read file) && not (is_direct_load file) && not (is_written_to lines file.name)

-- the file's name is marked
abbrev pub file_warnings : List Line → (card : ℕ) → FileLine → List Warning
file_warnings lines card file =
    warned_if (is_never_read lines file) (warning NeverRead card 7 14) ++ warned_if (is_never_written lines file) (warning NeverWritten card 7 14)

abbrev pub files_on : List Line → Line → List Warning
files_on lines line = on line.sheet
  where
    on : SheetLine → List Warning
    on (File file) = file_warnings lines line.card file
    on _ = []
