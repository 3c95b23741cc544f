-- The card at which a job halts, and the line that made the request.
use Rattle.std.proofs.Common.{◌≡◌, ℕ, ◌+◌, ◌-◌, ◌∙◌, ◌<◌, List, length, true, false, ap, arith, inl, inr, refl, subst, sym, true≢false}
use Rattle.std.specs.Prelude.{Option, Some, None, is_some, slice_get}
use Rattle.std.proofs.lemmas.Option.{slice_get_cases}
use Rattle.s3_lines.specs.declared.indicator.Indicator.{Indicator}
use Rattle.s3_meaning.specs.Runs.{ask, replied}
use Rattle.s3_meaning.specs.Source.{Source}
use Rattle.s3_program.specs.declared.program.Program.{Program}
use Rattle.s3_program.specs.declared.starts.OutputStart.{OutputStart}
use Rattle.s3_program.specs.declared.starts.Walk.{Walk}
use Rattle.s3_match.specs.declared.heads.InputFile.{InputFile}
use Rattle.s3_match.specs.Inner.Reading.{IsUnreadAt}
use Rattle.s3_cycle.specs.declared.progress.Continuation.{Continuation}
use Rattle.s3_cycle.specs.declared.progress.Continuation.TheVariants as after
use Rattle.s3_cycle.specs.declared.progress.Moves.TheVariants as moves
use Rattle.s3_cycle.specs.declared.progress.Point.{Point}
use Rattle.s3_cycle.specs.declared.progress.Progress.{Progress}
use Rattle.s3_cycle.specs.declared.progress.Point.TheVariants as at
use Rattle.s3_cycle.specs.declared.progress.Selection.{Selection}
use Rattle.s3_cycle.specs.declared.progress.Time.{Time}
use Rattle.s3_cycle.specs.declared.progress.Time.TheVariants as time
use Rattle.s3_cycle.specs.declared.stand.Stand.TheVariants.{Head, Field, Calculation, Output}
use Rattle.s3_cycle.specs.declared.request.Request.{Request}
use Rattle.s3_cycle.specs.declared.request.Request.TheVariants as asks
use Rattle.s3_cycle.specs.declared.stepper.Stepper.{Stepper}
use Rattle.s3_cycle.specs.Inner.Going.{held_by, Continues, IsChainRequest, IsDetailTime, IsHeadRequest, IsPastChain, IsPastLine, IsWaiting, Waits, is_ask, is_print_or_jump, is_record_request}
use Rattle.s3_cycle.specs.Inner.Rest.{rest, lines_from, starts_of}
use Rattle.s3_cycle.specs.Inner.Standing.{AsksAt, IsProcessed, field_at, head_at, output_before, stand_of}

-- an input file that is there
input_there : (files : List InputFile) (place : ℕ) → place < length files → (input : InputFile) × (slice_get files place ≡ Some input)
input_there files place within = by (slice_get files place) refl
  where
    by : (o : Option InputFile) → slice_get files place ≡ o → (input : InputFile) × (slice_get files place ≡ Some input)
    by (Some input) there = (input, there)
    by None there = elim (slice_get_cases files place).1 [ inl found ↦ absurd (true≢false (ap is_some (sym found.2 ∙ there))) | inr over ↦ absurd (omega (arith, within, over.0)) ]

-- ---- an output line
line_before : (program : Program) (w : Walk) (next place : ℕ) (start : OutputStart) → next ≡ place + 1 → slice_get (starts_of program.starts w) place ≡ Some start → output_before program w next ≡ Output start.file start.place
line_before program w next place start is there =
    let before : next - 1 ≡ place = omega (arith, is) in
    let found : slice_get (starts_of program.starts w) (next - 1) ≡ Some start = ap (slice_get (starts_of program.starts w)) before ∙ there in
    rw found refl

line_there : (source : Source) (c : Stepper) (w : Walk) (next : ℕ) → IsPastLine c.program w next → AsksAt source (record c { point = at.Reply (after.Lines w next) }) (output_before c.program w next)
unfolding rest ask replied
line_there source c w next past =
    subst (AsksAt source (record c { point = at.Reply (after.Lines w next) })) (sym (line_before c.program w next past.place past.start past.is_next past.there))
    (record {
      lines = w;
      number = past.place;
      start = past.start;
      there = past.there;
      is_file = refl;
      is_place = refl;
      goes_on = λ answers. ap (λ (k : ℕ). lines_from source c.program c.progress w k (held_by c) answers) past.is_next;
    })

-- ---- a record
head_is : (progress : Progress) (place : ℕ) (input : InputFile) → slice_get progress.reading.files.items place ≡ Some input → head_at progress place ≡ Head input.file input.reads
head_is progress place input there = rw there refl

head_there : (source : Source) (c : Stepper) (place : ℕ) → IsUnreadAt c.progress.reading.files.items place → AsksAt source (record c { point = at.Reply (after.Head place) }) (head_at c.progress place)
unfolding rest ask replied
head_there source c place unread =
    let found = input_there c.progress.reading.files.items place unread.within in
    subst (AsksAt source (record c { point = at.Reply (after.Head place) })) (sym (head_is c.progress place found.0 found.1))
    (record { place = place; input = found.0; there = found.1; is_file = refl; is_number = refl; goes_on = λ answers. refl })

-- ---- a field of the record that is processed
field_is : (progress : Progress) (place : ℕ) (selection : Selection) (input : InputFile) → progress.time ≡ time.Details selection → slice_get progress.reading.files.items selection.place ≡ Some input
    → field_at progress place ≡ Field place input.file selection.number
field_is progress place selection input is there = rw is (rw there refl)

-- the field is shown with the file and the number of the processed record
pub record IsShown (c : Stepper) (place : ℕ) : Type 0 where
  pub file : ℕ
  pub number : ℕ
  pub shown : field_at c.progress place ≡ Field place file number
  pub processed : IsProcessed c file number

field_shown : (c : Stepper) (place : ℕ) (t : Time) → c.progress.time ≡ t → IsDetailTime c.program c.progress t → IsShown c place
field_shown c place (time.Details selection) is taken =
    let found = input_there c.progress.reading.files.items selection.place taken.record_there.within in
    record {
      file = found.0.file;
      number = selection.number;
      shown = field_is c.progress place selection found.0 is found.1;
      processed = record { selection = selection; at_details = is; input = found.0; there = found.1; is_file = refl; is_number = refl };
    }
field_shown c place (time.Totals selection) is taken = absurd taken
field_shown c place time.Last is taken = absurd taken

field_there : (source : Source) (c : Stepper) (place : ℕ) → Continues c.program c.progress (after.Field moves.Selected place)
    → AsksAt source (record c { point = at.Reply (after.Field moves.Selected place) }) (field_at c.progress place)
unfolding rest ask replied
field_there source c place can =
    let is : IsShown c place = field_shown c place c.progress.time refl can.1.moves in
    subst (AsksAt source (record c { point = at.Reply (after.Field moves.Selected place) })) (sym is.shown)
    (record { is_field = can.0; goes_on = λ answers. refl }, processed_alike is.processed)
  where
    processed_alike : {file number : ℕ} → IsProcessed c file number → IsProcessed (record c { point = at.Reply (after.Field moves.Selected place) }) file number
    processed_alike is = record { selection = is.selection; at_details = is.at_details; input = is.input; there = is.there; is_file = is.is_file; is_number = is.is_number }

-- ---- a CHAIN
chain_there : (source : Source) (c : Stepper) → IsPastChain c.program c.progress → AsksAt source (record c { point = at.Reply after.Calculations }) (Calculation (c.progress.course.here.place - 1))
unfolding rest ask replied
chain_there source c past =
    let before : c.progress.course.here.place - 1 ≡ past.place = omega (arith, past.is_next) in
    subst (λ (k : ℕ). AsksAt source (record c { point = at.Reply after.Calculations }) (Calculation k)) (sym before)
    (inr (record { is_chain = past.is_chain; is_next = past.is_next; goes_on = λ answers. refl }))

continues_at : (source : Source) (c : Stepper) (next : Continuation) → Continues c.program c.progress next → AsksAt source (record c { point = at.Reply next }) (stand_of (record c { point = at.Reply next }))
unfolding rest ask replied
continues_at source c (after.Halts number) can = inr (record { number = number; is_one = can.0; goes_on = λ answers. refl })
continues_at source c (after.Lines w next) can = line_there source c w next can.1
continues_at source c (after.Head place) can = head_there source c place can
continues_at source c (after.Field moves.Selected place) can = field_there source c place can
continues_at source c (after.Field moves.Chained place) can = record { is_field = can.0; goes_on = λ answers. refl }
continues_at source c (after.Division place) can = inl (record { is_division = can.0; goes_on = λ answers. refl })
continues_at source c after.Calculations can = chain_there source c can.1

-- ---- the other points: their requests are no halts
print_no_ask : (request : Request) → is_print_or_jump request ≡ true → is_ask request ≡ false
print_no_ask (asks.Ask code) is = absurd (true≢false (sym is))
print_no_ask _ is = refl

record_no_ask : (request : Request) → is_record_request request ≡ true → is_ask request ≡ false
record_no_ask (asks.Ask code) is = absurd (true≢false (sym is))
record_no_ask _ is = refl

head_no_ask : (program : Program) (progress : Progress) (place : ℕ) (request : Request) → IsHeadRequest program progress place request → is_ask request ≡ false
head_no_ask program progress place (asks.Ask code) is = absurd is
head_no_ask program progress place _ is = refl

chain_no_ask : (program : Program) (file : ℕ) (missing : Option Indicator) (request : Request) → IsChainRequest program file missing request → is_ask request ≡ false
chain_no_ask program file missing (asks.Ask code) is = absurd is
chain_no_ask program file missing _ is = refl

asks_by : (source : Source) (c : Stepper) (point : Point) → Waits c.program c.progress c.request point → AsksAt source (record c { point = point }) (stand_of (record c { point = point }))
asks_by source c (at.Reply next) waits = continues_at source c next waits.1
asks_by source c (at.Lines w next) waits = inl (print_no_ask c.request waits.0)
asks_by source c (at.Records w next) waits = inl (record_no_ask c.request waits.0)
asks_by source c (at.Head place) waits = inl (head_no_ask c.program c.progress place c.request waits.0)
asks_by source c (at.Chained file missing) waits = inl (chain_no_ask c.program file missing c.request waits.0)
asks_by source c at.Calculations waits = inl (ap is_ask waits.0)
asks_by source c (at.End at_once) waits = inl (ap is_ask waits)

pub asks_at : (source : Source) (c : Stepper) → IsWaiting c → AsksAt source c (stand_of c)
asks_at source c is = asks_by source c c.point is.waits
