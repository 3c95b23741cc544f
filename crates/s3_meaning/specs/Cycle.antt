-- The cycle: its twelve steps, each a function of its continuation, and the whole run of a job.
use Rattle.std.specs.Prelude.{ℕ, zero, suc, ◌+◌, min, Bool, true, false, not, ◌&&◌, ◌||◌, List, [], ◌∷◌, length, map, filter, Option, Some, None, if◌then◌else◌}
use Rattle.std.specs.Option.{option_or}
use Rattle.std.specs.List.{list_any}
use Rattle.s3_lines.specs.declared.indicator.Indicator.{Indicator}
use Rattle.s3_lines.specs.declared.indicator.Indicator.TheVariants.{LastRecord, Matching, Halt, FirstPage}
use Rattle.s3_lines.specs.Files.{is_card_reader}
use Rattle.s3_operator.specs.declared.halt_code.HaltCode.TheVariants.{HaltIndicator, UnidentifiedRecord, OutOfSequence}
use Rattle.s3_lines.specs.declared.sheet.FileLine.{FileLine}
use Rattle.s3_meaning.specs.Names.{same_indicator}
use Rattle.s3_meaning.specs.RecordTypes.{RecordType}
use Rattle.s3_meaning.specs.Source.{Source, detail_calculations, total_calculations, is_input, overflow_of, has_control_fields, has_levels}
use Rattle.s3_meaning.specs.Requests.{Request, Card, Read, Answer, Found}
use Rattle.s3_meaning.specs.declared.current.Current.TheVariants.{NthRead}
use Rattle.s3_meaning.specs.Environment.{Environment, turn, turn_levels, with_last_record, put_current, at_first}
use Rattle.s3_meaning.specs.Selection.{type_of, Head, Unread, Stands, Ended, InputFile, Reading, head_key, is_unread, Selected, select, is_matched, taken, in_sequence, broken}
use Rattle.s3_meaning.specs.Runs.{Run, Rest, Anew, ask, ended, halted}
use Rattle.s3_meaning.specs.Moving.{fields_moved}
use Rattle.s3_meaning.specs.Output.{is_served, is_heading_or_detail, is_total_line, lines_put}
use Rattle.s3_meaning.specs.Calculating.{calculated}

-- ---- step 1
-- each of these of H1 to H9 that is on halts the job; reply 0 turns it off
unfoldable pub halts_shown : Anew → List ℕ → Rest → Rest
halts_shown anew [] go e = go e
halts_shown anew (n ∷ ns) go e =
    (if e.on (Halt n) then halted anew (HaltIndicator n) (λ e'. halts_shown anew ns go (turn (Halt n) false e')) else halts_shown anew ns go) e

-- prints H and D lines, turns 1P off, then halts for H1 to H9
unfoldable pub headings : Source → Anew → Rest → Rest
headings source anew go =
    lines_put source anew is_heading_or_detail false source.outputs
    (λ e. halts_shown anew (1 ∷ 2 ∷ 3 ∷ 4 ∷ 5 ∷ 6 ∷ 7 ∷ 8 ∷ 9 ∷ []) go (turn FirstPage false e))

-- ---- step 2
-- record identifying indicators go off; L1 to L9 go off, unless LR is on: then they go on
abbrev pub without_types : Source → Environment → Environment
without_types source e =
    record e { on = λ other. e.on other && not (list_any (λ kind. same_indicator other kind.indicator) source.types) }

unfoldable pub cleared : Source → Rest → Rest
cleared source go e = go (turn_levels (e.on LastRecord) (without_types source e))

-- ---- step 3
-- reads a card or a record
abbrev pub read_request : FileLine → Request
read_request file = if is_card_reader file.device then Card else Read file.name file.record_length

-- A record in sequence becomes the head of its file. A record out of sequence halts the job; reply 0 skips it.
unfoldable pub headed : Anew → InputFile → Head → (InputFile → Rest) → Rest
headed anew input head go e =
    (if in_sequence (head_key head) input.last_key
    then go (record input { standing = Stands head; last_key = option_or (head_key head) input.last_key })
    else halted anew OutOfSequence (anew.read input go)) e

-- a record of no type halts the job; reply 0 reads the next record
unfoldable pub typed : Anew → InputFile → List ℕ → Option RecordType → (InputFile → Rest) → Rest
typed anew input bytes (Some kind) go e = headed anew input (record { number = input.reads; bytes = bytes; kind = kind }) go e
typed anew input bytes None go e = halted anew UnidentifiedRecord (anew.read input go) e

-- Counts one more record. The count stops at 16,776,960: no file has more records than the largest pack has bytes.
abbrev pub counted_read : InputFile → InputFile
counted_read input = record input { reads = min (input.reads + 1) 16776960 }

unfoldable pub on_read : Source → Anew → InputFile → (InputFile → Rest) → Answer → Rest
on_read source anew input go (Found bytes) e = typed anew (counted_read input) bytes (type_of source input.file.name bytes) go e
on_read source anew input go _ e = go (record input { standing = Ended }) e

unfoldable pub file_read : Source → Anew → InputFile → (InputFile → Rest) → Rest
file_read source anew input go e = ask (read_request input.file) (λ answer. on_read source anew input go answer e)

-- reads each file that has no head and hasn't ended, in the order of the File Description specifications
unfoldable pub files_read : Source → Anew → List InputFile → (List InputFile → Rest) → Rest
files_read source anew [] go e = go [] e
files_read source anew (input ∷ inputs) go e =
    (if is_unread input
    then file_read source anew input (λ input'. files_read source anew inputs (λ inputs'. go (input' ∷ inputs')))
    else files_read source anew inputs (λ inputs'. go (input ∷ inputs'))) e

-- ---- steps 6 to 8
-- total calculations, then T lines
unfoldable pub totals : Source → Anew → Rest → Rest
totals source anew go =
    calculated source anew (total_calculations source)
    (lines_put source anew is_total_line false source.outputs go) None (total_calculations source)

-- if LR is on before step 6, the job ends at step 8
unfoldable pub last_time : Source → Anew → Rest
last_time source anew = totals source anew (ended false)

-- steps 6 and 7, skipped until total time is due; if total calculations set LR, the job ends
unfoldable pub total_time : Source → Anew → Rest → Rest
total_time source anew go e =
    (if e.totals_due
    then totals source anew (λ e'. (if e'.on LastRecord then ended false else go) e')
    else go) e

-- ---- step 9
abbrev pub without_overflow : Source → Environment → Environment
without_overflow source e = on (overflow_of source.files)
  where
    on : Option Indicator → Environment
    on (Some indicator) = turn indicator false e
    on None = e

abbrev pub has_overflowed : Source → Environment → Bool
has_overflowed source e = on (overflow_of source.files)
  where
    on : Option Indicator → Bool
    on (Some indicator) = e.on indicator
    on None = false

-- prints the H, D and T lines conditioned by the overflow indicator, then turns it off
unfoldable pub overflow_lines : Source → Anew → Rest → Rest
overflow_lines source anew go e =
    (if has_overflowed source e
    then lines_put source anew (λ kind. is_heading_or_detail kind || is_total_line kind) true source.outputs (λ e'. go (without_overflow source e'))
    else go) e

-- ---- steps 10 to 12
-- MR is set, and the selected record becomes the current record of its file
abbrev pub matched : Bool → Selected → Environment → Environment
matched is_matching selected e = put_current selected.file.name (Some (NthRead selected.head.number)) (turn Matching is_matching e)

-- total time is due after the first cycle, or, if the program has control fields, after the first record with control fields
abbrev pub with_totals_due : Source → Selected → Environment → Environment
with_totals_due source selected e = record e { totals_due = e.totals_due || not (has_levels source) || has_control_fields selected.head.kind }

-- moves fields, then performs detail calculations
unfoldable pub detail_time : Source → Anew → Selected → Rest → Rest
detail_time source anew selected go =
    fields_moved anew selected.head.kind.fields selected.head.bytes
    (calculated source anew (detail_calculations source) (λ e. go (with_totals_due source selected e)) None (detail_calculations source))

-- ---- the cycle
-- steps 4 to 12 for a selected record: its record identifying indicator goes on, and control breaks are detected
unfoldable pub record_time : Source → Anew → (is_matching : Bool) → Selected → Rest → Rest
record_time source anew is_matching selected go e =
    total_time source anew
    (overflow_lines source anew
    (λ e'. detail_time source anew selected go (matched is_matching selected e')))
    (broken selected.head (turn selected.head.kind.indicator true e))

-- processes the selected record; if there is none, LR and L1 to L9 go on
unfoldable pub selected_or_last : Source → Anew → Reading → Option Selected → Rest
selected_or_last source anew reading None e = last_time source anew (with_last_record e)
selected_or_last source anew reading (Some selected) e =
    record_time source anew (is_matched reading selected) selected (anew.cycle (taken reading selected)) e

-- steps 3 to 12 if LR is off
unfoldable pub reading_time : Source → Anew → Reading → Rest
reading_time source anew reading =
    files_read source anew reading.files
    (λ inputs. let heads : Reading = record { files = inputs; primary_key = reading.primary_key } in
    selected_or_last source anew heads (select heads))

unfoldable pub one_cycle : Source → Anew → Reading → Rest
one_cycle source anew reading =
    headings source anew (cleared source (λ e. (if e.on LastRecord then last_time source anew else reading_time source anew reading) e))

-- ---- the whole run
-- the four restart points, given those for later restarts
abbrev pub renewed : Source → Anew → Anew
renewed source anew =
    record {
      jump = λ section lines go. calculated source anew section go None lines;
      read = λ input go. file_read source anew input go;
      last = last_time source anew;
      cycle = λ reading. one_cycle source anew reading;
    }

-- restart points for at most so many restarts
unfoldable pub anew_within : ℕ → Source → Anew
anew_within zero source =
    record { jump = λ section lines go. ended true; read = λ input go. ended true; last = ended true; cycle = λ reading. ended true }
anew_within (suc n) source = renewed source (anew_within n source)

-- Each restart except the second cycle consumes an answer, so the number of answers bounds the restarts.
unfoldable pub again : Source → Anew
again source =
    record {
      jump = λ section lines go e answers. (anew_within (suc (suc (length answers))) source).jump section lines go e answers;
      read = λ input go e answers. (anew_within (suc (suc (length answers))) source).read input go e answers;
      last = λ e answers. (anew_within (suc (suc (length answers))) source).last e answers;
      cycle = λ reading e answers. (anew_within (suc (suc (length answers))) source).cycle reading e answers;
    }

-- a file whose condition is off has ended at once
abbrev pub first_standing : Environment → FileLine → InputFile
first_standing e file = record { file = file; standing = if is_served e file then Unread else Ended; reads = 0; last_key = None }

abbrev pub first_reading : Source → Environment → Reading
first_reading source e = record { files = map (first_standing e) (filter is_input source.files); primary_key = None }

abbrev pub run_from : Source → Rest
run_from source e = (again source).cycle (first_reading source e) e

-- the request that follows these answers
abbrev pub Req : Source → (switches : ℕ) → (date : List ℕ) → Run
Req source switches date = run_from source (at_first source switches date)
