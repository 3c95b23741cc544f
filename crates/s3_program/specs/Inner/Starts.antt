-- The places where record types, output lines and sections start, so that a run needn't search for them.
use Rattle.std.specs.Prelude.{◌≡◌, ℕ, ◌+◌, ◌==◌, if◌then◌else◌, Bool, true, false, not, List, [], ◌∷◌, Option, Some, None, map, filter, length}
use Rattle.std.specs.List.{range_with_len, cons_option}
use Rattle.s3_lines.specs.declared.sheet.FileLine.{FileLine}
use Rattle.s3_lines.specs.declared.sheet.InputLine.{InputLine}
use Rattle.s3_lines.specs.declared.sheet.InputLine.TheVariants.{Record, And as AndCodes, Or as OrCodes, Field as InputField}
use Rattle.s3_lines.specs.declared.sheet.CalculationTime.{CalculationTime}
use Rattle.s3_lines.specs.declared.sheet.CalculationTime.TheVariants.{Detail, Total, Subroutine, And, Or}
use Rattle.s3_lines.specs.declared.sheet.CalculationLine.{CalculationLine}
use Rattle.s3_lines.specs.declared.sheet.OutputKind.{OutputKind}
use Rattle.s3_lines.specs.declared.sheet.OutputKind.TheVariants as kind
use Rattle.s3_lines.specs.declared.sheet.OutputLine.{OutputLine}
use Rattle.s3_lines.specs.declared.sheet.OutputLine.TheVariants.{Line as LineCard, And as AndCard, Or as OrCard, Field as OutputField}
use Rattle.s3_program.specs.declared.program.Reference.{Reference}
use Rattle.s3_program.specs.declared.program.Reference.TheVariants as slot
use Rattle.s3_program.specs.declared.starts.TypeStart.{TypeStart}
use Rattle.s3_program.specs.declared.starts.OutputStart.{OutputStart}
use Rattle.s3_program.specs.declared.starts.Walk.{Walk}
use Rattle.s3_program.specs.declared.starts.Walk.TheVariants as walk
use Rattle.s3_program.specs.declared.starts.Sections.{Sections}
use Rattle.s3_program.specs.declared.starts.Starts.{Starts}

-- the slot of a file, or else the slot of the previous line
abbrev pub file_slot : ℕ → Reference → ℕ
file_slot last (slot.File k) = k
file_slot last (slot.Field k) = last
file_slot last (slot.Tag k) = last
file_slot last (slot.Subroutine k) = last

-- the place of the first element that passes a test, counted from `place`; the place after the last if none does
unfoldable pub first_from : {X : Type 0} → (X → Bool) → (place : ℕ) → List X → ℕ
first_from passes place [] = place
first_from passes place (x ∷ xs) = if passes x then place else first_from passes (place + 1) xs

-- ---- record types: from a record line, and from each OR line that continues it
-- the file of the group after a line
abbrev pub type_file : ℕ → InputLine Reference → ℕ
type_file last (Record file indicator codes) = file_slot last file
type_file last (AndCodes codes) = last
type_file last (OrCodes indicator codes) = last
type_file last (InputField field) = last

-- AND and OR lines
abbrev pub goes_on : InputLine Reference → Bool
goes_on (Record file indicator codes) = false
goes_on (AndCodes codes) = true
goes_on (OrCodes indicator codes) = true
goes_on (InputField field) = false

abbrev pub is_type : InputLine Reference → Bool
is_type (Record file indicator codes) = true
is_type (AndCodes codes) = false
is_type (OrCodes indicator codes) = true
is_type (InputField field) = false

-- the fields of a group begin after its AND and OR lines
abbrev pub fields_begin : (place : ℕ) → List (InputLine Reference) → ℕ
fields_begin place lines = first_from (λ line. not (goes_on line)) place lines

abbrev pub type_start : (file place fields : ℕ) → InputLine Reference → Option TypeStart
type_start file place fields line = if is_type line then Some (record { file = file; place = place; fields = fields }) else None

unfoldable pub type_starts_from : (last place : ℕ) → List (InputLine Reference) → List TypeStart
type_starts_from last place [] = []
type_starts_from last place (line ∷ lines) =
    cons_option (type_start (type_file last line) place (fields_begin (place + 1) lines) line) (type_starts_from (type_file last line) (place + 1) lines)

-- without a record line the file is unknown, and its slot is the one after the last
abbrev pub type_starts : List FileLine → List (InputLine Reference) → List TypeStart
type_starts files inputs = type_starts_from (length files) 0 inputs

abbrev pub is_type_of : ℕ → TypeStart → Bool
is_type_of file start = start.file == file

-- the types of one file, in card order
abbrev pub types_of_file : List TypeStart → ℕ → List TypeStart
types_of_file starts file = filter (is_type_of file) starts

-- the types of each file
abbrev pub types_by_file : List FileLine → List (InputLine Reference) → List (List TypeStart)
types_by_file files inputs = map (types_of_file (type_starts files inputs)) (range_with_len 0 (length files))

-- ---- output lines: a line without a name has the file of the previous line
abbrev pub output_slot : ℕ → Option Reference → ℕ
output_slot last (Some file) = file_slot last file
output_slot last None = last

abbrev pub output_file : ℕ → OutputLine Reference → ℕ
output_file last (LineCard card) = output_slot last card.file
output_file last (AndCard conditions) = last
output_file last (OrCard conditions) = last
output_file last (OutputField field) = last

abbrev pub output_start : (file place : ℕ) → OutputLine Reference → Option OutputStart
output_start file place (LineCard card) = Some (record { file = file; kind = card.kind; place = place })
output_start file place (AndCard conditions) = None
output_start file place (OrCard conditions) = None
output_start file place (OutputField field) = None

unfoldable pub output_starts_from : (last place : ℕ) → List (OutputLine Reference) → List OutputStart
output_starts_from last place [] = []
output_starts_from last place (line ∷ lines) =
    cons_option (output_start (output_file last line) place line) (output_starts_from (output_file last line) (place + 1) lines)

abbrev pub output_starts : List FileLine → List (OutputLine Reference) → List OutputStart
output_starts files outputs = output_starts_from (length files) 0 outputs

-- the kinds of output lines in one walk
abbrev pub is_walked : Walk → OutputKind → Bool
is_walked walk.Beginning kind.Heading = true
is_walked walk.Beginning kind.Detail = true
is_walked walk.Beginning kind.Total = false
is_walked walk.Beginning kind.Exception = false
is_walked walk.Totals kind.Heading = false
is_walked walk.Totals kind.Detail = false
is_walked walk.Totals kind.Total = true
is_walked walk.Totals kind.Exception = false
is_walked walk.Exceptions kind.Heading = false
is_walked walk.Exceptions kind.Detail = false
is_walked walk.Exceptions kind.Total = false
is_walked walk.Exceptions kind.Exception = true
is_walked walk.Overflow kind.Heading = true
is_walked walk.Overflow kind.Detail = true
is_walked walk.Overflow kind.Total = true
is_walked walk.Overflow kind.Exception = false

-- the output lines of a walk, in card order
abbrev pub walked : Walk → List FileLine → List (OutputLine Reference) → List OutputStart
walked w files outputs = filter (λ start. is_walked w start.kind) (output_starts files outputs)

-- ---- sections of the calculations: an AN or OR line is in its group's section
abbrev pub begins_totals : CalculationTime → Bool
begins_totals Detail = false
begins_totals (Total indicator) = true
begins_totals Subroutine = true
begins_totals And = false
begins_totals Or = false

abbrev pub begins_subroutines : CalculationTime → Bool
begins_subroutines Detail = false
begins_subroutines (Total indicator) = false
begins_subroutines Subroutine = true
begins_subroutines And = false
begins_subroutines Or = false

-- detail lines are before place `totals`; total lines are from there on, before place `subroutines`
abbrev pub sections_of : List (CalculationLine Reference) → Sections
sections_of lines = record { totals = first_from (λ line. begins_totals line.time) 0 lines; subroutines = first_from (λ line. begins_subroutines line.time) 0 lines }

-- ---- all starts
pub record AreStarts (starts : Starts) (files : List FileLine) (inputs : List (InputLine Reference)) (calculations : List (CalculationLine Reference)) (outputs : List (OutputLine Reference)) : Type 0 where
  pub types : map (λ types. types.items) starts.types.items ≡ types_by_file files inputs
  pub beginning : starts.beginning.items ≡ walked walk.Beginning files outputs
  pub totals : starts.totals.items ≡ walked walk.Totals files outputs
  pub exceptions : starts.exceptions.items ≡ walked walk.Exceptions files outputs
  pub overflow : starts.overflow.items ≡ walked walk.Overflow files outputs
  pub sections : starts.sections ≡ sections_of calculations

-- the same starts, at any memory locations
pub record SameStarts (one two : Starts) : Type 0 where
  pub types : map (λ types. types.items) one.types.items ≡ map (λ types. types.items) two.types.items
  pub beginning : one.beginning.items ≡ two.beginning.items
  pub totals : one.totals.items ≡ two.totals.items
  pub exceptions : one.exceptions.items ≡ two.exceptions.items
  pub overflow : one.overflow.items ≡ two.overflow.items
  pub sections : one.sections ≡ two.sections
