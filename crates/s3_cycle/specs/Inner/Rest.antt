-- The continuation of a suspended run: what follows the answer to the pending request.
use Rattle.std.specs.Prelude.{ℕ, ◌+◌, ◌-◌, Bool, true, false, ◌||◌, List, [], ◌∷◌, map, filter_map, drop, slice_get, Option, Some, None, unwrap_or, option_map, if◌then◌else◌}
use Rattle.s3_cards.specs.declared.name.Name.{Name}
use Rattle.s3_lines.specs.declared.indicator.Indicator.{Indicator}
use Rattle.s3_lines.specs.declared.indicator.Indicator.TheVariants.{Halt, LastRecord, FirstPage}
use Rattle.s3_lines.specs.declared.sheet.OutputKind.{OutputKind}
use Rattle.s3_lines.specs.declared.sheet.FieldLine.{FieldLine}
use Rattle.s3_lines.specs.declared.sheet.CalculationLine.{CalculationLine}
use Rattle.s3_meaning.specs.Source.{Source, detail_calculations}
use Rattle.s3_meaning.specs.OutputLines.{Output}
use Rattle.s3_meaning.specs.RecordTypes.{group_fields}
use Rattle.s3_meaning.specs.Requests.{Answer, Found}
use Rattle.s3_meaning.specs.Environment.{turn}
use Rattle.s3_meaning.specs.Selection.{Reading as MeantReading, InputFile, Selected, field_bytes, select, type_of}
use Rattle.s3_meaning.specs.Runs.{Run, Rest, ask, ended, replied}
use Rattle.s3_meaning.specs.Moving.{fields_moved}
use Rattle.s3_operations.specs.Inner.Moves.{with_field}
use Rattle.s3_meaning.specs.Output.{is_heading_or_detail, is_total_line, is_exception, lines_put, stored_or_halted}
use Rattle.s3_meaning.specs.Calculating.{calculated, chained_to, not_found, with_zero_quotient}
use Rattle.s3_meaning.specs.Cycle.{halts_shown, cleared, on_read, last_time, selected_or_last, reading_time, overflow_lines, without_overflow, matched, with_totals_due, detail_time, again}
use Rattle.s3_program.specs.declared.program.Program.{Program}
use Rattle.s3_program.specs.declared.starts.Starts.{Starts}
use Rattle.s3_program.specs.declared.starts.OutputStart.{OutputStart}
use Rattle.s3_program.specs.declared.starts.Walk.{Walk}
use Rattle.s3_program.specs.declared.starts.Walk.TheVariants as walk
use Rattle.s3_program.specs.Inner.Valid.{named_input}
use Rattle.s3_program.specs.Inner.Started.{output_at}
use Rattle.s3_operations.specs.Inner.Fits.{tables, named_line}
use Rattle.s3_match.specs.Inner.Types.{kind_at, name_of_file}
use Rattle.s3_match.specs.declared.heads.InputFile as code
use Rattle.s3_match.specs.Inner.Heads.{file_at}
use Rattle.s3_match.specs.Inner.Reading.{reading_in, read_behind, input_at}
use Rattle.s3_sections.specs.Inner.Courses.{goes_through, spots_of}
use Rattle.s3_cycle.specs.declared.progress.Progress.{Progress}
use Rattle.s3_cycle.specs.declared.progress.Selection.{Selection}
use Rattle.s3_cycle.specs.declared.progress.Time.TheVariants as time
use Rattle.s3_cycle.specs.declared.progress.Time.{Time}
use Rattle.s3_cycle.specs.declared.progress.Moves.{Moves}
use Rattle.s3_cycle.specs.declared.progress.Moves.TheVariants as moves
use Rattle.s3_cycle.specs.declared.progress.Continuation.{Continuation}
use Rattle.s3_cycle.specs.declared.progress.Continuation.TheVariants as after
use Rattle.s3_cycle.specs.declared.progress.Point.{Point}
use Rattle.s3_cycle.specs.declared.progress.Point.TheVariants as at
use Rattle.s3_cycle.specs.declared.stepper.Stepper.{Stepper}
use Rattle.s3_cycle.specs.Inner.Requests.{request_of}
use Rattle.s3_cycle.specs.Inner.Entries.{turn_entry}
use Rattle.s3_cycle.specs.Inner.Environment.{environment}

-- ---- the record being processed
abbrev pub selected_input : Progress → Selection → Option code.InputFile
selected_input progress selection = slice_get progress.reading.files.items selection.place

abbrev pub selected_bytes : Progress → Selection → List ℕ
selected_bytes progress selection = unwrap_or (option_map (λ input. input.bytes) (selected_input progress selection)) []

abbrev pub selected_of : Program → Progress → Selection → Selected
selected_of program progress selection = record {
  file = file_at program (unwrap_or (option_map (λ input. input.file) (selected_input progress selection)) 0);
  head = record { number = selection.number; bytes = selected_bytes progress selection; kind = kind_at program selection.start };
}

-- ---- after calculations
-- after detail calculations comes the next cycle
unfoldable pub details_done : Source → Program → Progress → Selection → Rest
details_done source program progress selection e =
    (again source).cycle (reading_in program progress.reading) (with_totals_due source (selected_of program progress selection) e)

-- steps 10 to 12
unfoldable pub record_moved : Source → Program → Progress → Selection → Rest
record_moved source program progress selection e =
    detail_time source (again source) (selected_of program progress selection) ((again source).cycle (reading_in program progress.reading))
    (matched selection.is_matched (selected_of program progress selection) e)

-- after step 8: the job ends if LR is on, else step 9 follows
unfoldable pub totals_done : Source → Program → Progress → Selection → Rest
totals_done source program progress selection e =
    (if e.on LastRecord then ended false else overflow_lines source (again source) (record_moved source program progress selection)) e

-- after T lines: the job ends after those of the last record; otherwise the selected record is processed
abbrev pub totals_end : Source → Program → Progress → Time → Rest
totals_end source program progress (time.Details selection) = totals_done source program progress selection
totals_end source program progress (time.Totals selection) = totals_done source program progress selection
totals_end source program progress time.Last = ended false

-- after the overflow lines
abbrev pub overflow_end : Source → Program → Progress → Time → Rest
overflow_end source program progress (time.Details selection) = λ e. record_moved source program progress selection (without_overflow source e)
overflow_end source program progress (time.Totals selection) = λ e. record_moved source program progress selection (without_overflow source e)
overflow_end source program progress time.Last = ended false

-- the output lines of one walk: those that are tried in sequence
abbrev pub starts_of : Starts → Walk → List OutputStart
starts_of starts walk.Beginning = starts.beginning.items
starts_of starts walk.Totals = starts.totals.items
starts_of starts walk.Exceptions = starts.exceptions.items
starts_of starts walk.Overflow = starts.overflow.items

abbrev pub outputs_from : Program → Walk → ℕ → List Output
outputs_from program w next = filter_map (output_at (tables program) program.outputs.items) (drop next (starts_of program.starts w))

abbrev pub is_wanted : Walk → OutputKind → Bool
is_wanted walk.Beginning = is_heading_or_detail
is_wanted walk.Totals = is_total_line
is_wanted walk.Exceptions = is_exception
is_wanted walk.Overflow = λ kind. is_heading_or_detail kind || is_total_line kind

abbrev pub is_at_overflow : Walk → Bool
is_at_overflow walk.Beginning = false
is_at_overflow walk.Totals = false
is_at_overflow walk.Exceptions = false
is_at_overflow walk.Overflow = true

unfoldable pub lines_then : Source → Program → Walk → ℕ → Rest → Rest
lines_then source program w next go = lines_put source (again source) (is_wanted w) (is_at_overflow w) (outputs_from program w next) go

-- after the calculations of this time
abbrev pub after_calculations : Source → Program → Progress → Time → Rest
after_calculations source program progress (time.Details selection) = details_done source program progress selection
after_calculations source program progress (time.Totals selection) = lines_then source program walk.Totals 0 (totals_end source program progress (time.Totals selection))
after_calculations source program progress time.Last = lines_then source program walk.Totals 0 (totals_end source program progress time.Last)

-- the remaining calculations, those after each EXSR that hasn't returned, and what follows
abbrev pub calculating : Source → Program → Progress → Rest
calculating source program progress =
    goes_through program (again source) (after_calculations source program progress progress.time) (spots_of progress.course)

-- ---- the steps of the next cycle
-- step 2 and everything after it
unfoldable pub cycle_from : Source → Program → Progress → Rest
cycle_from source program progress =
    cleared source
    (λ e. (if e.on LastRecord then last_time source (again source) else reading_time source (again source) (reading_in program progress.reading)) e)

-- the halts from H`n` on
abbrev pub halts_from : Source → Program → Progress → ℕ → Rest
halts_from source program progress n =
    halts_shown (again source) (drop (n - 1) (1 ∷ 2 ∷ 3 ∷ 4 ∷ 5 ∷ 6 ∷ 7 ∷ 8 ∷ 9 ∷ [])) (cycle_from source program progress)

-- ---- after output lines
abbrev pub after_lines : Source → Program → Progress → Walk → Rest
after_lines source program progress walk.Beginning = λ e. halts_from source program progress 1 (turn FirstPage false e)
after_lines source program progress walk.Totals = totals_end source program progress progress.time
after_lines source program progress walk.Exceptions = calculating source program progress
after_lines source program progress walk.Overflow = overflow_end source program progress progress.time

abbrev pub lines_from : Source → Program → Progress → Walk → ℕ → Rest
lines_from source program progress w next = lines_then source program w next (after_lines source program progress w)

-- ---- heads of files
abbrev pub inputs_in : Program → Progress → List InputFile
inputs_in program progress = (reading_in program progress.reading).files

-- all files are read, and a record is selected
unfoldable pub heads_read : Source → Program → Progress → List InputFile → Rest
heads_read source program progress inputs =
    let heads : MeantReading = record { files = inputs; primary_key = (reading_in program progress.reading).primary_key } in
    selected_or_last source (again source) heads (select heads)

-- the file at a place has been read, and the files after it follow
abbrev pub head_put : Source → Program → Progress → ℕ → InputFile → Rest
head_put source program progress place = read_behind source (again source) (inputs_in program progress) place (heads_read source program progress)

-- the file at a place answers
abbrev pub head_answered : Source → Program → Progress → ℕ → Answer → Rest
head_answered source program progress place answer =
    on_read source (again source) (input_at (inputs_in program progress) place) (head_put source program progress place) answer

-- reads the file at a place again
abbrev pub head_again : Source → Program → Progress → ℕ → Rest
head_again source program progress place = (again source).read (input_at (inputs_in program progress) place) (head_put source program progress place)

-- ---- fields
abbrev pub fields_at : Program → ℕ → List (FieldLine Name)
fields_at program place = group_fields (map (named_input (tables program)) (drop place program.inputs.items))

-- the bytes of the record being processed, in detail time
abbrev pub processed_bytes : Progress → Time → List ℕ
processed_bytes progress (time.Details selection) = selected_bytes progress selection
processed_bytes progress (time.Totals selection) = []
processed_bytes progress time.Last = []

abbrev pub moved_bytes : Progress → Moves → List ℕ
moved_bytes progress moves.Selected = processed_bytes progress progress.time
moved_bytes progress moves.Chained = progress.«record»

-- all detail calculations of a record
abbrev pub first_details : Source → Program → Progress → Selection → Rest
first_details source program progress selection =
    calculated source (again source) (detail_calculations source) (details_done source program progress selection) None (detail_calculations source)

-- after the fields of the record being processed come the detail calculations
abbrev pub processed_then : Source → Program → Progress → Time → Rest
processed_then source program progress (time.Details selection) = first_details source program progress selection
processed_then source program progress (time.Totals selection) = ended false
processed_then source program progress time.Last = ended false

-- after fields come the detail calculations, or the calculations after the CHAIN
abbrev pub after_fields : Source → Program → Progress → Moves → Rest
after_fields source program progress moves.Selected = processed_then source program progress progress.time
after_fields source program progress moves.Chained = calculating source program progress

unfoldable pub fields_from : Source → Program → Progress → Moves → ℕ → Rest
fields_from source program progress m place =
    fields_moved (again source) (fields_at program place) (moved_bytes progress m) (after_fields source program progress m)

-- moves the field at a place with its bad digits as 0, then the fields after it
abbrev pub field_then : Source → Program → Progress → Moves → ℕ → Rest
field_then source program progress m place = on (fields_at program place)
  where
    on : List (FieldLine Name) → Rest
    on [] e = ended true e
    on (field ∷ fields) e =
        fields_from source program progress m (place + 1) (with_field field field.form (field_bytes field (moved_bytes progress m)) e)

-- ---- the continuation
abbrev pub line_at : Program → ℕ → Option (CalculationLine Name)
line_at program place = option_map (named_line program) (slice_get program.calculations.items place)

abbrev pub division_then : Source → Program → Progress → ℕ → Rest
division_then source program progress place = on (line_at program place)
  where
    on : Option (CalculationLine Name) → Rest
    on None e = ended true e
    on (Some line) e = calculating source program progress (with_zero_quotient source line e)

abbrev pub chain_answered : Source → Program → Progress → (file : ℕ) → (missing : Option Indicator) → Answer → Rest
chain_answered source program progress file missing (Found bytes) = λ e.
    chained_to (again source) (name_of_file program file) bytes (type_of source (name_of_file program file) bytes) (calculating source program progress) (turn_entry missing false e)
chain_answered source program progress file missing answer = not_found (again source) missing (calculating source program progress)

-- what follows reply 0
abbrev pub continued : Source → Program → Progress → Continuation → Rest
continued source program progress (after.Halts n) = λ e. halts_from source program progress (n + 1) (turn (Halt n) false e)
continued source program progress (after.Lines w next) = lines_from source program progress w next
continued source program progress (after.Head place) = head_again source program progress place
continued source program progress (after.Field m place) = field_then source program progress m place
continued source program progress (after.Division place) = division_then source program progress place
continued source program progress after.Calculations = calculating source program progress

-- what follows the answer to the pending request
abbrev pub answered : Source → Program → Progress → Point → Answer → Rest
answered source program progress (at.Lines w next) answer = lines_from source program progress w next
answered source program progress (at.Records w next) answer = stored_or_halted (again source) (lines_from source program progress w next) answer
answered source program progress (at.Head place) answer = head_answered source program progress place answer
answered source program progress (at.Chained file missing) answer = chain_answered source program progress file missing answer
answered source program progress at.Calculations answer = calculating source program progress
answered source program progress (at.Reply next) answer = replied (again source) (continued source program progress next) answer
answered source program progress (at.End at_once) answer = ended at_once

-- the next request after these further answers
unfoldable pub rest : Source → Stepper → Run
rest source c =
    ask (request_of c.program c.composition c.request) (λ answer. answered source c.program c.progress c.point answer (environment c.program c.state))
