-- The source line and the data at which a job halts.
use Rattle.std.specs.Prelude.{◌≡◌, ◌⊎◌, ℕ, ◌+◌, ◌-◌, ◌∷◌, Bool, true, false, List, [], slice_get, Option, Some, None, option_map, if◌then◌else◌}
use Rattle.std.specs.Option.{option_and_then}
use Rattle.s3_lines.specs.Ranges.{is_between}
use Rattle.s3_lines.specs.declared.indicator.Indicator.TheVariants.{Halt}
use Rattle.s3_lines.specs.declared.sheet.CalculationLine.{CalculationLine}
use Rattle.s3_lines.specs.declared.sheet.Factor.{Factor}
use Rattle.s3_lines.specs.declared.sheet.Factor.TheVariants.{Named}
use Rattle.s3_lines.specs.declared.sheet.Operation.{Operation}
use Rattle.s3_lines.specs.declared.sheet.Operation.TheVariants as op
use Rattle.s3_meaning.specs.Calculating.{sought_in}
use Rattle.s3_meaning.specs.Environment.{turn}
use Rattle.s3_meaning.specs.Output.{filled}
use Rattle.s3_meaning.specs.Requests as Meant
use Rattle.s3_meaning.specs.Runs.{Rest}
use Rattle.s3_meaning.specs.Source.{Source}
use Rattle.s3_program.specs.declared.program.Program.{Program}
use Rattle.s3_program.specs.declared.program.Reference.{Reference}
use Rattle.s3_program.specs.declared.program.Reference.TheVariants.{File}
use Rattle.s3_program.specs.declared.starts.OutputStart.{OutputStart}
use Rattle.s3_program.specs.declared.starts.Walk.{Walk}
use Rattle.s3_operations.specs.Inner.Chaining.{file_sought}
use Rattle.s3_operations.specs.Inner.Fits.{IsLineOf, named_line}
use Rattle.s3_instructions.specs.declared.calculation.chained.Chained.{Chained}
use Rattle.s3_instructions.specs.declared.calculation.work.Asked.{Asked}
use Rattle.s3_instructions.specs.declared.calculation.work.Asked.TheVariants as asked
use Rattle.s3_instructions.specs.Inner.Chains.{IsChained}
use Rattle.s3_match.specs.declared.heads.InputFile.{InputFile}
use Rattle.s3_cycle.specs.declared.progress.Progress.{Progress}
use Rattle.s3_cycle.specs.declared.progress.Time.{Time}
use Rattle.s3_cycle.specs.declared.progress.Time.TheVariants as time
use Rattle.s3_cycle.specs.declared.progress.Moves.{Moves}
use Rattle.s3_cycle.specs.declared.progress.Moves.TheVariants as moves
use Rattle.s3_cycle.specs.declared.progress.Continuation.{Continuation}
use Rattle.s3_cycle.specs.declared.progress.Continuation.TheVariants as after
use Rattle.s3_cycle.specs.declared.progress.Point.{Point}
use Rattle.s3_cycle.specs.declared.progress.Point.TheVariants as at
use Rattle.s3_cycle.specs.declared.progress.Selection.{Selection}
use Rattle.s3_cycle.specs.declared.stand.Stand.{Stand}
use Rattle.s3_cycle.specs.declared.stand.Stand.TheVariants.{Nowhere, Head, Field, ChainedField, Calculation, Output}
use Rattle.s3_cycle.specs.declared.stand.Totals.{Totals}
use Rattle.s3_cycle.specs.declared.stand.Totals.TheVariants as totals
use Rattle.s3_cycle.specs.declared.stepper.Stepper.{Stepper}
use Rattle.s3_cycle.specs.Inner.Going.{IsField, IsLineAt, is_ask, own, held_by}
use Rattle.s3_cycle.specs.Inner.Rest.{calculating, division_then, field_then, halts_from, head_again, lines_from, moved_bytes, rest, selected_bytes, selected_input, starts_of}

-- ---- the place of a halt
-- the output line before the next one of a walk
abbrev pub output_before : Program → Walk → ℕ → Stand
output_before program w next = on (slice_get (starts_of program.starts w) (next - 1))
  where
    on : Option OutputStart → Stand
    on None = Nowhere
    on (Some start) = Output start.file start.place

-- the last record read from the file at a place
abbrev pub head_at : Progress → ℕ → Stand
head_at progress place = on (slice_get progress.reading.files.items place)
  where
    on : Option InputFile → Stand
    on None = Nowhere
    on (Some input) = Head input.file input.reads

-- a field of the record being processed
abbrev pub field_at : Progress → ℕ → Stand
field_at progress place = by progress.time
  where
    on : (number : ℕ) → Option InputFile → Stand
    on number None = Nowhere
    on number (Some input) = Field place input.file number

    by : Time → Stand
    by (time.Details selection) = on selection.number (selected_input progress selection)
    by (time.Totals selection) = Nowhere
    by time.Last = Nowhere

-- the place that reply 0 continues from
abbrev pub stand_before : Program → Progress → Continuation → Stand
stand_before program progress (after.Halts number) = Nowhere
stand_before program progress (after.Lines w next) = output_before program w next
stand_before program progress (after.Head place) = head_at progress place
stand_before program progress (after.Field moves.Selected place) = field_at progress place
stand_before program progress (after.Field moves.Chained place) = ChainedField place
stand_before program progress (after.Division place) = Calculation place
stand_before program progress after.Calculations = Calculation (progress.course.here.place - 1)

abbrev pub stand_of : Stepper → Stand
stand_of c = on c.point
  where
    on : Point → Stand
    on (at.Reply next) = stand_before c.program c.progress next
    on point = Nowhere

-- ---- the record at the halt
-- the record whose field is moved, or the record that is written
abbrev pub record_at : Stepper → Stand → List ℕ
record_at c (Field place file number) = moved_bytes c.progress moves.Selected
record_at c (ChainedField place) = moved_bytes c.progress moves.Chained
record_at c (Output file place) = filled c.composition
record_at c stand = []

-- ---- the totals at the halt
-- the totals before this record
abbrev pub totals_before : Progress → Selection → Totals
totals_before progress selection = on (selected_input progress selection)
  where
    on : Option InputFile → Totals
    on None = totals.Elsewhere
    on (Some input) = totals.Before input.file selection.number

abbrev pub totals_of : Progress → Time → Totals
totals_of progress (time.Details selection) = totals.Elsewhere
totals_of progress (time.Totals selection) = totals_before progress selection
totals_of progress time.Last = totals.Last

-- the record that follows the totals
abbrev pub record_behind : Progress → Time → List ℕ
record_behind progress (time.Details selection) = []
record_behind progress (time.Totals selection) = selected_bytes progress selection
record_behind progress time.Last = []

-- ---- the CHAIN at the halt
abbrev pub is_chain : Option Operation → Bool
is_chain (Some op.Chain) = true
is_chain operation = false

-- the line at a place, if it is a CHAIN
abbrev pub chain_at : Program → ℕ → Option (CalculationLine Reference)
chain_at program place = on (slice_get program.calculations.items place)
  where
    on : Option (CalculationLine Reference) → Option (CalculationLine Reference)
    on None = None
    on (Some line) = if is_chain line.operation then Some line else None

-- the decoded CHAIN at a place
pub record IsChainAt (program : Program) (place : ℕ) (chain : Chained) : Type 0 where
  pub line : CalculationLine Reference
  pub there : chain_at program place ≡ Some line
  pub of_program : IsLineOf program line op.Chain
  pub is : IsChained program line chain

abbrev pub chained_in : Asked → Option Chained
chained_in (asked.Chain chain) = Some chain
chained_in request = None

-- the decoded CHAIN at a place, if the line there is a CHAIN
abbrev pub FindsChain : Program → (place : ℕ) → Option Chained → Type 0
FindsChain program place (Some chain) = IsChainAt program place chain
FindsChain program place None = chain_at program place ≡ None

-- the CHAIN at which the job halts
abbrev pub chain_of : Program → Stand → Option (CalculationLine Reference)
chain_of program (Calculation place) = chain_at program place
chain_of program stand = None

-- what a CHAIN line seeks with the run's values
unfoldable pub sought_by : Stepper → CalculationLine Reference → Option Meant.Sought
sought_by c line = option_map (sought_in (own c) (held_by c) (named_line c.program line)) (file_sought c.program line)

-- ---- the file at the halt
abbrev pub slot_named : Option (Factor Reference) → Option ℕ
slot_named (Some (Named (File slot))) = Some slot
slot_named factor = None

-- the slot of the file of a record, of a CHAIN or of an output line
abbrev pub file_of : Program → Stand → Option ℕ
file_of program (Head file number) = Some file
file_of program (Field place file number) = Some file
file_of program (Output file place) = Some file
file_of program (Calculation place) = option_and_then (λ (line : CalculationLine Reference). slot_named line.factor2) (chain_at program place)
file_of program stand = None

-- ---- the halting line and the continuation after reply 0
-- after reply 0 the run continues as this continuation
abbrev pub GoesOnAs : Source → Stepper → Rest → Type 0
GoesOnAs source c meant = (answers : List Meant.Answer) → rest source c (Meant.Reply 0 ∷ answers) ≡ meant (held_by c) answers

-- One of H1 to H9 halts the run. After reply 0 it is turned off, and the later ones that are on halt in turn.
pub record AsksIndicator (source : Source) (c : Stepper) : Type 0 where
  pub number : ℕ
  pub is_one : is_between 1 9 number ≡ true
  pub goes_on : GoesOnAs source c (λ e. halts_from source c.program c.progress (number + 1) (turn (Halt number) false e))

-- The halt is at the last record of this file, which has this number. After reply 0 the file is read again.
pub record AsksHead (source : Source) (c : Stepper) (file number : ℕ) : Type 0 where
  pub place : ℕ
  pub input : InputFile
  pub there : slice_get c.progress.reading.files.items place ≡ Some input
  pub is_file : input.file ≡ file
  pub is_number : input.reads ≡ number
  pub goes_on : GoesOnAs source c (head_again source c.program c.progress place)

-- The halt is at the field of this line, which has bad digits. After reply 0 the field is moved, then the fields after it.
pub record AsksField (source : Source) (c : Stepper) (m : Moves) (place : ℕ) : Type 0 where
  pub is_field : IsField c.program place
  pub goes_on : GoesOnAs source c (field_then source c.program c.progress m place)

-- the processed record is the one with this number in this file
pub record IsProcessed (c : Stepper) (file number : ℕ) : Type 0 where
  pub selection : Selection
  pub at_details : c.progress.time ≡ time.Details selection
  pub input : InputFile
  pub there : slice_get c.progress.reading.files.items selection.place ≡ Some input
  pub is_file : input.file ≡ file
  pub is_number : selection.number ≡ number

-- The halt is at this line, a DIV by zero. After reply 0 its quotient becomes 0.
pub record AsksDivision (source : Source) (c : Stepper) (place : ℕ) : Type 0 where
  pub is_division : IsLineAt c.program place op.Divide
  pub goes_on : GoesOnAs source c (division_then source c.program c.progress place)

-- The halt is at this line, a CHAIN. After reply 0 calculations continue at the line after it.
pub record AsksChain (source : Source) (c : Stepper) (place : ℕ) : Type 0 where
  pub is_chain : IsLineAt c.program place op.Chain
  pub is_next : c.progress.course.here.place ≡ place + 1
  pub goes_on : GoesOnAs source c (calculating source c.program c.progress)

-- The halt is at the output line that starts at this place. After reply 0 the line is skipped, and the lines after it follow.
pub record AsksLine (source : Source) (c : Stepper) (file place : ℕ) : Type 0 where
  pub lines : Walk
  pub number : ℕ
  pub start : OutputStart
  pub there : slice_get (starts_of c.program.starts lines) number ≡ Some start
  pub is_file : start.file ≡ file
  pub is_place : start.place ≡ place
  pub goes_on : GoesOnAs source c (lines_from source c.program c.progress lines (number + 1))

-- The card of a halt. There is none only if the run doesn't halt, or if a halt indicator halts it.
abbrev pub AsksAt : Source → Stepper → Stand → Type 0
AsksAt source c Nowhere = (is_ask c.request ≡ false) ⊎ AsksIndicator source c
AsksAt source c (Head file number) = AsksHead source c file number
AsksAt source c (Field place file number) = AsksField source c moves.Selected place × IsProcessed c file number
AsksAt source c (ChainedField place) = AsksField source c moves.Chained place
AsksAt source c (Calculation place) = AsksDivision source c place ⊎ AsksChain source c place
AsksAt source c (Output file place) = AsksLine source c file place
