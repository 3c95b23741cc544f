-- Steps of a suspended run: each continues as the semantics does.
use Rattle.std.specs.Prelude.{◌≡◌, ◌≤◌, ◌<◌, ◌+◌, ℕ, Bool, true, false, not, ◌||◌, List, length, Option, Some, is_some, slice_get}
use Rattle.std.specs.List.{All, list_any, list_all}
use Rattle.s3_lines.specs.Files.{is_card_reader}
use Rattle.s3_cards.specs.declared.name.Name.{Name}
use Rattle.s3_lines.specs.Ranges.{is_between}
use Rattle.s3_lines.specs.declared.indicator.Indicator.{Indicator}
use Rattle.s3_lines.specs.declared.sheet.FieldLine.{FieldLine}
use Rattle.s3_lines.specs.declared.sheet.InputLine.TheVariants.{Field as InputField}
use Rattle.s3_lines.specs.declared.sheet.Operation.{Operation}
use Rattle.s3_lines.specs.declared.sheet.Operation.TheVariants as operation
use Rattle.s3_lines.specs.declared.sheet.CalculationLine.{CalculationLine}
use Rattle.s3_lines.specs.declared.sheet.Factor.TheVariants.{Named}
use Rattle.s3_meaning.specs.Source.{Source, overflow_of}
use Rattle.s3_meaning.specs.Environment.{Environment}
use Rattle.s3_meaning.specs.Runs.{Run, Rest}
use Rattle.s3_meaning.specs.Calculating.{first_indicator}
use Rattle.s3_meaning.specs.Selection as meaning
use Rattle.s3_program.specs.declared.program.Program.{Program}
use Rattle.s3_program.specs.declared.program.Reference.{Reference}
use Rattle.s3_program.specs.declared.program.Reference.TheVariants.{File}
use Rattle.s3_program.specs.declared.starts.OutputStart.{OutputStart}
use Rattle.s3_program.specs.declared.starts.TypeStart.{TypeStart}
use Rattle.s3_program.specs.declared.starts.Walk.{Walk}
use Rattle.s3_program.specs.declared.starts.Walk.TheVariants as walk
use Rattle.s3_program.specs.Inner.Stands.{source_named}
use Rattle.s3_operations.specs.Inner.Held.{IsSound as AreValues}
use Rattle.s3_match.specs.declared.heads.InputFile.{InputFile}
use Rattle.s3_match.specs.declared.heads.Standing.TheVariants.{Stands}
use Rattle.s3_match.specs.Inner.Heads.{file_at}
use Rattle.s3_match.specs.Inner.Reading.{IsReading, IsUnreadAt, input_at}
use Rattle.s3_match.specs.Inner.Types.{is_type_start}
use Rattle.s3_sections.specs.Inner.Courses.{IsCourse}
use Rattle.s3_instructions.specs.Inner.Calculations.{AreCalculations, IsTotalsGuard}
use Rattle.s3_instructions.specs.Inner.Fields.{AreInputs}
use Rattle.s3_instructions.specs.Inner.OutputLines.{AreOutputs}
use Rattle.s3_cycle.specs.declared.progress.Progress.{Progress}
use Rattle.s3_cycle.specs.declared.progress.Selection.{Selection}
use Rattle.s3_cycle.specs.declared.progress.Time.{Time}
use Rattle.s3_cycle.specs.declared.progress.Time.TheVariants as time
use Rattle.s3_cycle.specs.declared.progress.Moves.{Moves}
use Rattle.s3_cycle.specs.declared.progress.Moves.TheVariants as moves
use Rattle.s3_cycle.specs.declared.progress.Continuation.{Continuation}
use Rattle.s3_cycle.specs.declared.progress.Continuation.TheVariants as after
use Rattle.s3_cycle.specs.declared.progress.Point.{Point}
use Rattle.s3_cycle.specs.declared.progress.Point.TheVariants as at
use Rattle.s3_cycle.specs.declared.request.FileCall.{FileCall}
use Rattle.s3_cycle.specs.declared.request.FileCall.TheVariants as calls
use Rattle.s3_cycle.specs.declared.request.Request.{Request}
use Rattle.s3_cycle.specs.declared.request.Request.TheVariants as asks
use Rattle.s3_cycle.specs.declared.state.State.{State}
use Rattle.s3_cycle.specs.declared.stepper.Stepper.{Stepper}
use Rattle.s3_cycle.specs.Inner.Requests.{IsLine, FitsFile}
use Rattle.s3_cycle.specs.Inner.Rest.{rest, inputs_in, moved_bytes, selected_bytes, starts_of, fields_at}
use Rattle.s3_cycle.specs.Inner.Environment.{environment}

-- ---- the state of a run
abbrev pub own : Stepper → Source
own c = source_named c.program

abbrev pub held_by : Stepper → Environment
held_by c = environment c.program c.state

-- the run that a continuation gives from the current state
abbrev pub here : Stepper → (Source → Program → Progress → Rest) → Run
here c meant = meant (own c) c.program c.progress (held_by c)

-- ---- representation invariants
pub record AreSound (program : Program) (state : State) : Type 0 where
  pub values : AreValues program state.values
  pub current : length state.current.items ≡ length program.files.items

-- the fields of a group, from a place on, lie within a record
abbrev pub AreWithin : Program → List ℕ → ℕ → Type 0
AreWithin program bytes place = All (λ (field : FieldLine Name). field.to ≤ length bytes) (fields_at program place)

-- the record being processed: a record type starts at its place, and its fields lie within the record
pub record IsSelection (program : Program) (progress : Progress) (selection : Selection) : Type 0 where
  pub within : selection.place < length progress.reading.files.items
  pub starts : is_type_start program selection.start ≡ true
  pub fields : AreWithin program (selected_bytes progress selection) selection.start.fields

-- some file is unread, or none has a head
abbrev pub can_begin : List meaning.InputFile → Bool
can_begin inputs = list_any meaning.is_unread inputs || list_all (λ input. not (is_some (meaning.head_of input))) inputs

abbrev pub CanBegin : Program → Progress → Type 0
CanBegin program progress = can_begin (inputs_in program progress) ≡ true

-- the selected record was taken from its file, so the next cycle reads that file
pub record IsTaken (program : Program) (progress : Progress) (selection : Selection) : Type 0 where
  pub record_there : IsSelection program progress selection
  pub begins : CanBegin program progress

abbrev pub IsTime : Program → Progress → Time → Type 0
IsTime program progress (time.Details selection) = IsTaken program progress selection
IsTime program progress (time.Totals selection) = IsTaken program progress selection
IsTime program progress time.Last = Unit {0}

-- the fields of a file's head lie within its record
pub record IsHeadWithin (program : Program) (input : InputFile) : Type 0 where
  pub within : (start : TypeStart) → input.standing ≡ Stands start → AreWithin program input.bytes start.fields

-- invariant of a run between two requests
pub record IsRunning (c : Stepper) : Type 0 where
  pub overflow : c.overflow ≡ overflow_of c.program.files.items
  pub state : AreSound c.program c.state
  pub reading : IsReading c.program c.progress.reading
  pub heads : All (IsHeadWithin c.program) c.progress.reading.files.items
  pub calculations : AreCalculations c.program c.calculations.items
  pub totals_guard : IsTotalsGuard c.program c.totals_guard
  pub inputs : AreInputs c.program c.inputs.items
  pub outputs : AreOutputs c.program c.outputs

-- calculations can continue
pub record CanCalculate (program : Program) (progress : Progress) : Type 0 where
  pub time : IsTime program progress progress.time
  pub course : IsCourse program progress.course

-- ---- what the run waits for
-- whether lines of a kind can be written at this time
abbrev pub IsOverflowTime : Program → Progress → Time → Type 0
IsOverflowTime program progress (time.Details selection) = ⊥
IsOverflowTime program progress (time.Totals selection) = IsTaken program progress selection
IsOverflowTime program progress time.Last = ⊥

abbrev pub IsTotalTime : Program → Progress → Time → Type 0
IsTotalTime program progress (time.Details selection) = ⊥
IsTotalTime program progress (time.Totals selection) = IsTaken program progress selection
IsTotalTime program progress time.Last = Unit {0}

abbrev pub IsWalk : Program → Progress → Walk → Type 0
IsWalk program progress walk.Beginning = CanBegin program progress
IsWalk program progress walk.Totals = IsTotalTime program progress progress.time
IsWalk program progress walk.Exceptions = CanCalculate program progress
IsWalk program progress walk.Overflow = IsOverflowTime program progress progress.time

-- the line at this place has this operation
pub record IsLineAt (program : Program) (place : ℕ) (bears : Operation) : Type 0 where
  pub line : CalculationLine Reference
  pub there : slice_get program.calculations.items place ≡ Some line
  pub operation : line.operation ≡ Some bears

-- fields of a selected record are moved in detail time only
abbrev pub IsDetailTime : Program → Progress → Time → Type 0
IsDetailTime program progress (time.Details selection) = IsTaken program progress selection
IsDetailTime program progress (time.Totals selection) = ⊥
IsDetailTime program progress time.Last = ⊥

-- whether fields can be moved now: of the selected record, or of a chained one
abbrev pub AreMoves : Program → Progress → Moves → Type 0
AreMoves program progress moves.Selected = IsDetailTime program progress progress.time
AreMoves program progress moves.Chained = CanCalculate program progress

-- the fields from a place on can be moved, and lie within the record
pub record CanMove (program : Program) (progress : Progress) (m : Moves) (place : ℕ) : Type 0 where
  pub moves : AreMoves program progress m
  pub within : AreWithin program (moved_bytes progress m) place

-- an output line is the one before the next of a walk
pub record IsPastLine (program : Program) (w : Walk) (next : ℕ) : Type 0 where
  pub place : ℕ
  pub start : OutputStart
  pub there : slice_get (starts_of program.starts w) place ≡ Some start
  pub is_next : next ≡ place + 1

-- calculations continue at the line after a CHAIN
pub record IsPastChain (program : Program) (progress : Progress) : Type 0 where
  pub place : ℕ
  pub is_chain : IsLineAt program place operation.Chain
  pub is_next : progress.course.here.place ≡ place + 1

-- the line at this place has a field
pub record IsField (program : Program) (place : ℕ) : Type 0 where
  pub field : FieldLine Reference
  pub there : slice_get program.inputs.items place ≡ Some (InputField field)

-- what each continuation after reply 0 needs
abbrev pub Continues : Program → Progress → Continuation → Type 0
Continues program progress (after.Halts number) = (is_between 1 9 number ≡ true) × CanBegin program progress
Continues program progress (after.Lines w next) = IsWalk program progress w × IsPastLine program w next
Continues program progress (after.Head place) = IsUnreadAt progress.reading.files.items place
Continues program progress (after.Field m place) = IsField program place × CanMove program progress m place
Continues program progress (after.Division place) = IsLineAt program place operation.Divide × CanCalculate program progress
Continues program progress after.Calculations = CanCalculate program progress × IsPastChain program progress

-- a request whose only answer is Done
abbrev pub is_print_or_jump : Request → Bool
is_print_or_jump (asks.Print page line) = true
is_print_or_jump asks.Jump = true
is_print_or_jump request = false

-- the call writes a record to the file
abbrev pub puts_record : FileCall → Bool
puts_record calls.Append = true
puts_record calls.Add = true
puts_record (calls.Update current) = true
puts_record call = false

abbrev pub is_record_request : Request → Bool
is_record_request (asks.File file call) = puts_record call
is_record_request request = false

-- the request for the file's next head: a card, or a record of this length
abbrev pub IsHeadRequest : Program → Progress → ℕ → Request → Type 0
IsHeadRequest program progress place asks.Card = is_card_reader (input_at (inputs_in program progress) place).file.device ≡ true
IsHeadRequest program progress place (asks.File file (calls.Read length)) = length ≡ (input_at (inputs_in program progress) place).file.record_length
IsHeadRequest program progress place request = ⊥

-- a CHAIN of the program names the file, with this indicator for no record
pub record IsChainOf (program : Program) (file : ℕ) (missing : Option Indicator) : Type 0 where
  pub place : ℕ
  pub line : CalculationLine Reference
  pub there : slice_get program.calculations.items place ≡ Some line
  pub operation : line.operation ≡ Some operation.Chain
  pub names : line.factor2 ≡ Some (Named (File file))
  pub within : file < length program.files.items
  pub misses : missing ≡ first_indicator line.indicators

abbrev pub IsChainRequest : Program → (file : ℕ) → Option Indicator → Request → Type 0
IsChainRequest program file missing (asks.File slot (calls.Chain length sought)) = IsChainOf program file missing × (length ≡ (file_at program file).record_length)
IsChainRequest program file missing request = ⊥

abbrev pub is_ask : Request → Bool
is_ask (asks.Ask code) = true
is_ask request = false

abbrev pub Waits : Program → Progress → Request → Point → Type 0
Waits program progress request (at.Lines w next) = (is_print_or_jump request ≡ true) × IsWalk program progress w
Waits program progress request (at.Records w next) = (is_record_request request ≡ true) × (IsWalk program progress w × IsPastLine program w next)
Waits program progress request (at.Head place) = IsHeadRequest program progress place request × IsUnreadAt progress.reading.files.items place
Waits program progress request (at.Chained file missing) = IsChainRequest program file missing request × (CanCalculate program progress × IsPastChain program progress)
Waits program progress request at.Calculations = (request ≡ asks.Jump) × CanCalculate program progress
Waits program progress request (at.Reply next) = (is_ask request ≡ true) × Continues program progress next
Waits program progress request (at.End at_once) = request ≡ asks.End at_once

-- invariant of a run that waits for an answer
pub record IsWaiting (c : Stepper) : Type 0 where
  pub running : IsRunning c
  pub waits : Waits c.program c.progress c.request c.point
  pub line : IsLine c.request c.composition
  pub fits : FitsFile c.program.files.items c.request c.composition

-- the new run has the same program, waits for an answer, and continues as `run`
pub record GoesOn (old new : Stepper) (run : Run) : Type 0 where
  pub program : new.program ≡ old.program
  pub sound : IsWaiting new
  pub runs : rest (own new) new ≡ run

-- ---- updates of the environment only
pub record Changes (old new : Stepper) (change : Source → Environment → Environment) : Type 0 where
  pub stays : new ≡ record old { state = new.state }
  pub sound : AreSound old.program new.state
  pub held : environment old.program new.state ≡ change (own old) (held_by old)
