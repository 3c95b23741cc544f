-- The request that an output line makes.
use Rattle.std.proofs.Common.{◌≡◌, ℕ, ◌+◌, ◌<◌, ◌≤◌, Bool, true, false, if◌then◌else◌, List, [], ◌∷◌, length, get_or, Option, Some, None, Fits, w64, refl, sym, ◌∙◌, ap, subst, true≢false, arith}
use Rattle.std.specs.Prelude.{not, ◌&&◌, nat_le, slice_get, is_some, unwrap_or, option_map, option_and_then, replicate}
use Rattle.std.specs.List.{list_all}
use Rattle.std.specs.Option.{option_or}
use Rattle.std.proofs.lemmas.Bool.{and_parts}
use Rattle.std.proofs.lemmas.Option.{slice_get-map, slice_get_read, slice_get-get_or, slice_get_within}
use Rattle.s3_lines.specs.Files.{is_printer}
use Rattle.s3_cards.specs.declared.name.Name.{Name}
use Rattle.s3_cards.specs.Names.{no_name}
use Rattle.s3_lines.specs.Inner.Ranges.{file_in_range, spacing_in_range}
use Rattle.s3_lines.specs.Ranges.{if_given, is_between, is_overflow_indicator, longest_record}
use Rattle.s3_lines.specs.declared.indicator.Indicator.{Indicator}
use Rattle.s3_lines.specs.declared.indicator.Indicator.TheVariants.{Switch}
use Rattle.s3_lines.specs.declared.sheet.Device.{Device}
use Rattle.s3_lines.specs.declared.sheet.Device.TheVariants.{CardReader, Printer, Disk}
use Rattle.s3_lines.specs.declared.sheet.FileLine.{FileLine}
use Rattle.s3_lines.specs.declared.sheet.Spacing.{Spacing}
use Rattle.s3_meaning.specs.declared.current.Current.{Current}
use Rattle.s3_meaning.specs.Source.{Source, overflow_of, is_updated}
use Rattle.s3_meaning.specs.Environment.{Environment}
use Rattle.s3_meaning.specs.OutputLines.{Output}
use Rattle.s3_lines.specs.declared.sheet.OutputField.{OutputField}
use Rattle.s3_output.specs.Inner.Compositions.{first_position}
use Rattle.s3_output.proofs.FilledLemmas.{Alike, begins_alike, composed_alike}
use Rattle.s3_meaning.specs.Carriage.{Carriage as Place, to_print, after_print}
use Rattle.s3_meaning.specs.Requests as Meant
use Rattle.s3_meaning.specs.Output.{Composed, composed, carriage, filled, put_carriage, printed, disk_request, stored_or_halted, file_line_put}
use Rattle.s3_meaning.specs.Runs.{Run, Rest, ask}
use Rattle.s3_meaning.specs.Cycle.{again}
use Rattle.s3_program.specs.declared.program.Program.{Program}
use Rattle.s3_program.specs.declared.starts.OutputStart.{OutputStart}
use Rattle.s3_program.specs.declared.starts.Walk.{Walk}
use Rattle.s3_program.specs.declared.starts.Walk.TheVariants as walk
use Rattle.s3_program.specs.Inner.Positions.{are_in_range}
use Rattle.s3_program.specs.Inner.Stands.{parts_of}
use Rattle.s3_program.specs.Inner.Tables.{slot_in}
use Rattle.s3_program.specs.FileEntries.{file_entry}
use Rattle.s3_program.specs.Inner.Valid.{named}
use Rattle.s3_program.proofs.SlotLemmas.{kept, own_slot}
use Rattle.s3_operations.specs.Inner.Fits.{tables}
use Rattle.s3_operations.specs.declared.values.Values.{Values}
use Rattle.s3_operations.specs.Inner.Held.{IsSound as AreValues, held}
use Rattle.s3_operations.specs.Inner.Indicators.{is_settable, is_settable_entry}
use Rattle.s3_output.specs.declared.carriage.Carriage.{Carriage}
use Rattle.s3_output.specs.declared.carriage.Moved.{Moved}
use Rattle.s3_output.specs.declared.requests.DiskRequest.{DiskRequest}
use Rattle.s3_output.specs.declared.requests.DiskRequest.TheVariants as disk
use Rattle.s3_output.specs.Inner.Carriages.{place, place_moved}
use Rattle.s3_output.specs.Inner.Requests as disk_spec
use Rattle.s3_output.specs.Inner.Lines.{IsLineAt, IsStart, file_of}
use Rattle.s3_instructions.specs.declared.output.instruction.LineRequest.{LineRequest}
use Rattle.s3_instructions.specs.declared.output.instruction.LineRequest.TheVariants as lines
use Rattle.s3_instructions.specs.declared.output.instruction.OutputInstruction.{OutputInstruction}
use Rattle.s3_instructions.specs.Inner.Composing.{Composes}
use Rattle.s3_instructions.specs.Inner.OutputLines.{IsLineRequest, IsPrinting, IsStoring, IsWhole, is_told, is_used, own_starts}
use Rattle.s3_instructions.specs.Inner.Putting.{FitsLine}
use Rattle.s3_instructions.proofs.ComposeLemmas.{line_fits}
use Rattle.s3_match.specs.Inner.Heads.{no_file, file_at}
use Rattle.s3_match.specs.Inner.Types.{name_of_file}
use Rattle.s3_cycle.specs.declared.progress.Point.TheVariants as at
use Rattle.s3_cycle.specs.declared.request.FileCall.{FileCall}
use Rattle.s3_cycle.specs.declared.request.FileCall.TheVariants as calls
use Rattle.s3_cycle.specs.declared.request.Request.TheVariants as asks
use Rattle.s3_cycle.specs.declared.state.State.{State}
use Rattle.s3_cycle.specs.declared.stepper.Stepper.{Stepper}
use Rattle.s3_cycle.specs.Inner.Requests.{Allows, IsLine, IsDiskFile, TakesRecord, request_of, request_to}
use Rattle.s3_cycle.specs.Inner.Rest.{lines_from, starts_of}
use Rattle.s3_cycle.specs.Inner.Environment.{environment, others}
use Rattle.s3_cycle.specs.Inner.Going.{own, held_by, here, AreSound, IsPastLine, IsRunning, IsWalk, GoesOn, Changes, puts_record}
use Rattle.s3_cycle.specs.Inner.Entries.{turn_entry}
use Rattle.s3_cycle.specs.Inner.Lines.{is_held, is_due, IsDue}
use Rattle.s3_cycle.specs.Inner.Printing.{AsksFor, CanCompose, CanStore, ComposesLine}
use Rattle.s3_cycle.proofs.GoingLemmas.{goes_wait, goes_then, changed_running, changed_program, changes_both}
use Rattle.s3_cycle.proofs.AnswerLemmas.{at_most, file_ranged}
use Rattle.s3_cycle.proofs.FileLemmas.{IsPutOnDisk, file_tabled, line_taken, put_on_disk}
use Rattle.s3_cycle.proofs.LineLemmas.{IsLineOf, line_due, line_of, line_read}

-- ---- the carriage
-- an overflow indicator isn't a switch
settable : (i : Indicator) → is_overflow_indicator i ≡ true → is_settable i ≡ true
settable (Switch n) is = absurd (true≢false (sym is))
settable _ is = refl

overflow_in : (files : List FileLine) → list_all file_in_range files ≡ true → is_settable_entry (overflow_of files) ≡ true
overflow_in [] ranged = refl
overflow_in (file ∷ files) ranged =
    let parts = and_parts (file_in_range file) (list_all file_in_range files) ranged in
    by file.overflow (and_parts _ _ (and_parts _ _ parts.0).0).1 (overflow_in files parts.1)
  where
    by : (o : Option Indicator) → if_given (λ i. is_overflow_indicator i && is_printer file.device) o ≡ true → is_settable_entry (overflow_of files) ≡ true
        → is_settable_entry (option_or o (overflow_of files)) ≡ true
    by None given later = later
    by (Some i) given later = settable i (and_parts (is_overflow_indicator i) (is_printer file.device) given).0

pub overflow_settable : (c : Stepper) → IsRunning c → is_settable_entry c.overflow ≡ true
unfolding are_in_range
overflow_settable c running =
    let ranged = (kept (parts_of c.program) c.program.valid).ranged in
    ap is_settable_entry running.overflow ∙ overflow_in c.program.files.items (and_parts _ _ (and_parts _ _ (and_parts _ _ ranged).0).0).0

-- the carriage has its new position
pub carriage_put : (c : Stepper) (to : Carriage) → AreSound c.program c.state
    → Changes c (record c { state = record c.state { carriage = to } }) (λ source e. record e { page = to.page; line = to.line })
unfolding environment held
carriage_put c to sound = record { stays = refl; sound = record { values = sound.values; current = sound.current }; held = refl }

-- at overflow the overflow indicator goes on
with_overflow : (source : Source) (to : Place) (o : Option Indicator) (e : Environment) → overflow_of source.files ≡ o → to.overflow ≡ true → turn_entry o true (record e { page = to.page; line = to.line }) ≡ put_carriage source to e
with_overflow source to None e is on = rw is refl
with_overflow source to (Some i) e is on = rw (is, on) refl

without_overflow : (source : Source) (to : Place) (o : Option Indicator) (e : Environment) → overflow_of source.files ≡ o → to.overflow ≡ false → record e { page = to.page; line = to.line } ≡ put_carriage source to e
without_overflow source to None e is off = rw is refl
without_overflow source to (Some i) e is off = rw (is, off) refl

pub own_overflow : (c : Stepper) → IsRunning c → overflow_of (own c).files ≡ c.overflow
unfolding named
own_overflow c running = sym running.overflow

pub carriage_overflows : (old mid new : Stepper) (to : Moved) → IsRunning old → to.overflow ≡ true → Changes old mid (λ source e. record e { page = to.carriage.page; line = to.carriage.line })
    → Changes mid new (λ source. turn_entry mid.overflow true) → Changes old new (λ source. put_carriage source (place_moved to))
carriage_overflows old mid new to running on before behind =
    let both : Changes old new (λ source e. turn_entry mid.overflow true (record e { page = to.carriage.page; line = to.carriage.line })) = changes_both old mid new _ (λ source. turn_entry mid.overflow true) before behind in
    record {
      stays = both.stays;
      sound = both.sound;
      held = both.held
          ∙ (ap (λ (k : Stepper). turn_entry k.overflow true (record (held_by old) { page = to.carriage.page; line = to.carriage.line })) before.stays
          ∙ with_overflow (own old) (place_moved to) old.overflow (held_by old) (own_overflow old running) on);
    }

pub carriage_stays : (old new : Stepper) (to : Moved) → IsRunning old → to.overflow ≡ false → Changes old new (λ source e. record e { page = to.carriage.page; line = to.carriage.line })
    → Changes old new (λ source. put_carriage source (place_moved to))
carriage_stays old new to running off changes = record {
  stays = changes.stays;
  sound = changes.sound;
  held = changes.held ∙ without_overflow (own old) (place_moved to) old.overflow (held_by old) (own_overflow old running) off;
}

-- ---- a line is printed
pub prints : (old mid new : Stepper) (line : Output) (spacing : Spacing) (there after : Moved) (w : Walk) (next : ℕ) → IsRunning old → IsWalk old.program old.progress w → line.spacing ≡ spacing
    → place_moved there ≡ to_print spacing (place old.state.carriage false) → place_moved after ≡ after_print spacing (place_moved there)
    → Changes old mid (λ source. put_carriage source (place_moved after)) → IsLine (asks.Print there.carriage.page there.carriage.line) old.composition
    → new ≡ record mid { request = asks.Print there.carriage.page there.carriage.line; point = at.Lines w next }
    → GoesOn old new (here old (λ source program progress. printed source line (filled old.composition) (lines_from source program progress w next)))
unfolding printed request_of environment held
prints old mid new line spacing there after w next running walk spaced is_there is_after moves printable same =
    let asks_at : Place → Place → Run = λ one two. ask (Meant.Print one.page one.line (filled old.composition))
    (λ answer. lines_from (own old) old.program old.progress w next (put_carriage (own old) two (held_by old))) in
    let asks_in : Stepper → Run = λ k. ask (Meant.Print there.carriage.page there.carriage.line (filled k.composition)) (λ answer. lines_from (own k) k.program k.progress w next (held_by k)) in
    let to : to_print line.spacing (carriage (held_by old)) ≡ place_moved there = ap (λ (s : Spacing). to_print s (carriage (held_by old))) spaced ∙ sym is_there in
    let on : after_print line.spacing (to_print line.spacing (carriage (held_by old))) ≡ place_moved after =
    ap (λ (s : Spacing). after_print s (to_print line.spacing (carriage (held_by old)))) spaced ∙ (ap (after_print spacing) to ∙ sym is_after) in
    let before : asks_in mid ≡ asks_at (place_moved there) (place_moved after) =
    ap asks_in moves.stays
    ∙ ap (λ (e : Environment). ask (Meant.Print there.carriage.page there.carriage.line (filled old.composition)) (λ answer. lines_from (own old) old.program old.progress w next e)) moves.held in
    let meant : asks_at (to_print line.spacing (carriage (held_by old))) (after_print line.spacing (to_print line.spacing (carriage (held_by old)))) ≡ asks_at (place_moved there) (place_moved after) =
    ap (λ one. asks_at one (after_print line.spacing (to_print line.spacing (carriage (held_by old))))) to ∙ ap (asks_at (place_moved there)) on in
    goes_then old mid new (asks_in mid) _ (changed_program old mid _ moves) (meant ∙ sym before)
    (goes_wait mid new (asks.Print there.carriage.page there.carriage.line) (at.Lines w next) (asks_in mid) same (changed_running old mid _ moves running)
    (refl, walks_on moves.stays walk) (printable_on moves.stays) tt refl)
  where
    walks_on : mid ≡ record old { state = mid.state } → IsWalk old.program old.progress w → IsWalk mid.program mid.progress w
    walks_on stays walks = let P : Stepper → Type 0 = λ k. IsWalk k.program k.progress w in subst P (sym stays) walks

    printable_on : mid ≡ record old { state = mid.state } → IsLine (asks.Print there.carriage.page there.carriage.line) mid.composition
    printable_on stays = let P : Stepper → Type 0 = λ k. IsLine (asks.Print there.carriage.page there.carriage.line) k.composition in subst P (sym stays) printable

-- ---- a record is written to its file
pub file_name : (p : Program) (k : ℕ) → name_of_file p k ≡ (file_at p k).name
file_name p k = ap (λ (o : Option (Name × FileLine)). unwrap_or (option_map (λ (e : Name × FileLine). e.0) o) no_name) (slice_get-map file_entry p.files.items k) ∙ by (slice_get p.files.items k)
  where
    by : (o : Option FileLine) → unwrap_or (option_map (λ (e : Name × FileLine). e.0) (option_map file_entry o)) no_name ≡ (unwrap_or o no_file).name
    by None = refl
    by (Some file) = refl

pub file_within : (p : Program) (k : ℕ) → k < length p.files.items → slice_get p.files.items k ≡ Some (file_at p k)
file_within p k within =
    let there = slice_get-get_or p.files.items k no_file within in
    there ∙ ap (λ file. Some file) (sym (ap (λ o. unwrap_or o no_file) there))

-- the current record of a file, by the file's slot
current_there : (c : Stepper) (k : ℕ) (current : Option Current) → k < length c.program.files.items → slice_get c.state.current.items k ≡ Some current
    → (held_by c).current (file_at c.program k).name ≡ current
unfolding environment held
current_there c k current within there =
    let entry : slice_get (tables c.program).files k ≡ Some (file_entry (file_at c.program k)) = slice_get-map file_entry c.program.files.items k ∙ ap (option_map file_entry) (file_within c.program k within) in
    let slot : slot_in (tables c.program).files (file_at c.program k).name ≡ k = own_slot (tables c.program).files k _ (kept (parts_of c.program) c.program.valid).files_distinct entry in
    ap (λ n. option_and_then (λ (o : Option Current). o) (slice_get c.state.current.items n)) slot
    ∙ ap (λ (o : Option (Option Current)). option_and_then (λ (o : Option Current). o) o) there

-- the request of a line
abbrev pub Asks : Stepper → (file : ℕ) → DiskRequest → FileCall → Type 0
Asks c file asked call = (line : Output) → AsksFor c.program file line asked → request_to (name_of_file c.program file) c.composition call ≡ disk_request (file_at c.program file) line c.composition (held_by c)

asks_as : (c : Stepper) (file : ℕ) (asked kind : DiskRequest) (call : FileCall) → asked ≡ kind
    → request_to (name_of_file c.program file) c.composition call ≡ disk_spec.request_of kind (file_at c.program file) c.composition (held_by c)
    → Asks c file asked call
asks_as c file asked kind call is_kind asks = λ line meant.
    asks ∙ (ap (λ (a : DiskRequest). disk_spec.request_of a (file_at c.program file) c.composition (held_by c)) (sym is_kind) ∙ sym (meant c.composition (held_by c)))

pub appends : (c : Stepper) (file : ℕ) (asked : DiskRequest) → asked ≡ disk.Append → Asks c file asked calls.Append
appends c file asked is = asks_as c file asked disk.Append calls.Append is (ap (λ name. Meant.Append name (filled c.composition)) (file_name c.program file))

pub adds : (c : Stepper) (file : ℕ) (asked : DiskRequest) → asked ≡ disk.Add → Asks c file asked calls.Add
adds c file asked is = asks_as c file asked disk.Add calls.Add is (ap (λ name. Meant.Add name (filled c.composition)) (file_name c.program file))

-- the file of a record that can be written exists
pub store_within : (c : Stepper) (file : ℕ) (asked : DiskRequest) → CanStore c file asked → file < length c.program.files.items
store_within c file asked stores = slice_get_within c.program.files.items file stores.fits.line stores.fits.there

pub updates : (c : Stepper) (file : ℕ) (asked : DiskRequest) (current : Option Current) → AreSound c.program c.state → file < length c.program.files.items
    → current ≡ get_or c.state.current.items file current → asked ≡ disk.Update → Asks c file asked (calls.Update current)
updates c file asked current sound within stands is =
    let inside : file < length c.state.current.items = omega (arith, sound.current, within) in
    let there : slice_get c.state.current.items file ≡ Some current = slice_get_read c.state.current.items (length c.state.current.items) file current refl inside stands in
    asks_as c file asked disk.Update (calls.Update current) is
    (ap (λ name. Meant.Update name current c.composition) (file_name c.program file)
    ∙ ap (λ o. Meant.Update (file_at c.program file).name o c.composition) (sym (current_there c file current within there)))

-- ---- the requests that a file allows
abbrev is_add : Meant.Request → Bool
is_add (Meant.Add name record_bytes) = true
is_add request = false

abbrev is_update : Meant.Request → Bool
is_update (Meant.Update name current positions) = true
is_update request = false

add_keyed : (file : FileLine) (line : Output) (positions : List (Option ℕ)) (e : Environment) → is_add (disk_request file line positions e) ≡ true → is_some file.key ≡ true
add_keyed file line positions e is = (and_parts line.is_addition (is_some file.key) (by (is_updated file && not line.is_addition) (line.is_addition && is_some file.key) is)).1
  where
    by : (one two : Bool) → is_add (if one then Meant.Update file.name (e.current file.name) positions else (if two then Meant.Add file.name (filled positions) else Meant.Append file.name (filled positions))) ≡ true
        → two ≡ true
    by true two h = absurd (true≢false (sym h))
    by false true h = refl
    by false false h = absurd (true≢false (sym h))

update_changes : (file : FileLine) (line : Output) (positions : List (Option ℕ)) (e : Environment) → is_update (disk_request file line positions e) ≡ true → is_updated file ≡ true
update_changes file line positions e is = (and_parts (is_updated file) (not line.is_addition) (by (is_updated file && not line.is_addition) (line.is_addition && is_some file.key) is)).0
  where
    by : (one two : Bool) → is_update (if one then Meant.Update file.name (e.current file.name) positions else (if two then Meant.Add file.name (filled positions) else Meant.Append file.name (filled positions))) ≡ true
        → one ≡ true
    by true two h = refl
    by false true h = absurd (true≢false (sym h))
    by false false h = absurd (true≢false (sym h))

-- the File Description specification of a file that records can be written to
taking_line : (c : Stepper) (file : ℕ) (asked : DiskRequest) (stores : CanStore c file asked) → file_at c.program file ≡ stores.fits.line
taking_line c file asked stores = ap (λ o. unwrap_or o no_file) stores.fits.there

pub add_fits : (c : Stepper) (file : ℕ) (asked : DiskRequest) → asked ≡ disk.Add → CanStore c file asked → IsDiskFile c.program.files.items file (Allows calls.Add (length c.composition))
add_fits c file asked is stores =
    let keyed : is_some (file_at c.program file).key ≡ true =
    add_keyed (file_at c.program file) stores.line c.composition (held_by c)
    (ap is_add (stores.asks c.composition (held_by c)) ∙ ap (λ (d : DiskRequest). is_add (disk_spec.request_of d (file_at c.program file) c.composition (held_by c))) is) in
    record {
      line = stores.fits.line;
      there = stores.fits.there;
      on_disk = stores.fits.on_disk;
      suits = record { takes = stores.fits.suits; keyed = ap (λ (f : FileLine). is_some f.key) (sym (taking_line c file asked stores)) ∙ keyed };
    }

pub update_fits : (c : Stepper) (file : ℕ) (asked : DiskRequest) (current : Option Current) → asked ≡ disk.Update → CanStore c file asked → IsDiskFile c.program.files.items file (Allows (calls.Update current) (length c.composition))
update_fits c file asked current is stores =
    let updated : is_updated (file_at c.program file) ≡ true =
    update_changes (file_at c.program file) stores.line c.composition (held_by c)
    (ap is_update (stores.asks c.composition (held_by c)) ∙ ap (λ (d : DiskRequest). is_update (disk_spec.request_of d (file_at c.program file) c.composition (held_by c))) is) in
    record {
      line = stores.fits.line;
      there = stores.fits.there;
      on_disk = stores.fits.on_disk;
      suits = record { takes = stores.fits.suits; updated = ap is_updated (sym (taking_line c file asked stores)) ∙ updated };
    }

pub stores : (old new : Stepper) (line : Output) (k : ℕ) (call : FileCall) (w : Walk) (next : ℕ) → IsRunning old → IsWalk old.program old.progress w → IsPastLine old.program w next → puts_record call ≡ true
    → request_to (name_of_file old.program k) old.composition call ≡ disk_request (file_at old.program k) line old.composition (held_by old)
    → IsDiskFile old.program.files.items k (Allows call (length old.composition)) → new ≡ record old { request = asks.File k call; point = at.Records w next }
    → GoesOn old new (here old (λ source program progress e. ask (disk_request (file_at program k) line old.composition e) (λ answer. stored_or_halted (again source) (lines_from source program progress w next) answer e)))
unfolding request_of
stores old new line k call w next running walk past is meant fits same =
    goes_wait old new (asks.File k call) (at.Records w next) _ same running (is, (walk, past)) tt fits
    (ap (λ r. ask r (λ answer. stored_or_halted (again (own old)) (lines_from (own old) old.program old.progress w next) answer (held_by old))) (sym meant))

-- ---- a line is written
-- the run composes the line, then continues after it
pub record IsPut (old : Stepper) (w : Walk) (place : ℕ) (start : OutputStart) (line : Output) : Type 0 where
  pub is_line : IsLineOf old.program w start line
  pub within : start.file < length old.program.files.items
  pub runs : here old (λ source program progress. lines_from source program progress w place)
      ≡ file_line_put (own old) (again (own old)) line (file_at old.program start.file) (lines_from (own old) old.program old.progress w (place + 1)) (held_by old)

pub is_put : (old : Stepper) (w : Walk) (place : ℕ) (start : OutputStart) → slice_get (starts_of old.program.starts w) place ≡ Some start → is_due old w start ≡ true → (line : Output) × IsPut old w place start line
is_put old w place start there due =
    let found = line_of old.program w place start there in
    let on = ap (λ o. is_used (held_by old) (slice_get old.program.files.items start.file) && is_held old w o) (sym found.1.there) ∙ due in
    let used = (and_parts (is_used (held_by old) (slice_get old.program.files.items start.file)) (is_held old w (Some found.0)) on).0 in
    let inside : start.file < length old.program.files.items = used_within old.program.files.items start.file used in (
      found.0,
      record {
        is_line = found.1;
        within = inside;
        runs = line_due old.program w place start found.0 (file_at old.program start.file) _ (held_by old) there found.1 (file_within old.program start.file inside) on;
      },
    )
  where
    used_within : (files : List FileLine) (k : ℕ) → is_used (held_by old) (slice_get files k) ≡ true → k < length files
    used_within files k used = by (slice_get files k) refl used
      where
        by : (o : Option FileLine) → slice_get files k ≡ o → is_used (held_by old) o ≡ true → k < length files
        by None at used = absurd (true≢false (sym used))
        by (Some file) at used = slice_get_within files k file at

-- ---- the line is composed
told_is : (p : Program) (start : OutputStart) (file : FileLine) (request : LineRequest) → IsLineRequest p start file request → is_told request ≡ not (is_printer file.device)
told_is p start file (lines.Print spacing) is = sym (ap not is.printer)
told_is p start file (lines.Record request) is = sym (ap not is.other)

-- the instruction of a line that is due, with its content
pub record IsDueLine (c : Stepper) (w : Walk) (place : ℕ) (start : OutputStart) (instruction : OutputInstruction) : Type 0 where
  pub line : Output
  pub put : IsPut c w place start line
  pub slot : instruction.file ≡ start.file
  pub whole : IsWhole c.program start instruction

pub due_line : (c : Stepper) (w : Walk) (place number : ℕ) (instruction : OutputInstruction) → IsRunning c → (due : IsDue c w place) → slice_get (own_starts c.program.starts) number ≡ slice_get (starts_of c.program.starts w) place
    → instruction ≡ get_or c.outputs.lines.items number instruction → IsDueLine c w place due.start instruction
due_line c w place number instruction running due same read =
    let put = is_put c w place due.start due.there due.due in
    let is = line_read c number instruction due.start running (same ∙ due.there) read in
    record {
      line = put.0;
      put = put.1;
      slot = is.slot;
      whole = is.whole (ap is_some (file_within c.program due.start.file put.1.within));
    }

-- a due line can be composed
pub due_composed : (c : Stepper) (w : Walk) (place number : ℕ) → (due : IsDue c w place) → slice_get (own_starts c.program.starts) number ≡ slice_get (starts_of c.program.starts w) place → CanCompose c number
due_composed c w place number due same =
    let put = is_put c w place due.start due.there due.due in
    record {
      start = due.start;
      there = same ∙ due.there;
      starts = put.1.is_line.starts;
      file = ap is_some (file_within c.program due.start.file put.1.within);
    }

pub composing_within : (c : Stepper) (number : ℕ) → IsRunning c → CanCompose c number → number < length c.outputs.lines.items
composing_within c number running can = omega (arith, slice_get_within (own_starts c.program.starts) number can.start can.there, running.outputs.lines.count)

pub line_fitting : (c : Stepper) (number : ℕ) (instruction : OutputInstruction) → IsRunning c → CanCompose c number → instruction ≡ get_or c.outputs.lines.items number instruction → FitsLine c.state.values instruction
line_fitting c number instruction running can read =
    line_fits c.program c.state.values can.start instruction running.state.values can.starts ((line_read c number instruction can.start running can.there read).whole can.file)

-- the values and positions that a line composes, for any program
abbrev pub ComposesAll : OutputInstruction → (old new : Values) → List (Option ℕ) → Type 0
ComposesAll instruction old new positions =
    (p : Program) (start : OutputStart) → AreValues p old → IsStart p start → IsWhole p start instruction → Composes p start instruction.length (is_told instruction.request) old new positions

pub composes_line : (old new : Stepper) (number : ℕ) (instruction : OutputInstruction) (values : Values) (positions : List (Option ℕ)) → IsRunning old → CanCompose old number
    → instruction ≡ get_or old.outputs.lines.items number instruction
    → new ≡ record old { state = record old.state { values = values }; composition = new.composition } → new.composition ≡ positions → ComposesAll instruction old.state.values values positions
    → (start : OutputStart) → slice_get (own_starts old.program.starts) number ≡ Some start → ComposesLine old new start
unfolding environment
composes_line old new number instruction values positions running can read same composed_so all start there =
    let one : can.start ≡ start = ap (λ (o : Option OutputStart). unwrap_or o start) (sym can.there ∙ there) in
    let starts : IsStart old.program start = subst (λ (s : OutputStart). IsStart old.program s) one can.starts in
    let whole : IsWhole old.program start instruction = (line_read old number instruction start running there read).whole (ap (λ (s : OutputStart). is_some (file_of old.program s)) (sym one) ∙ can.file) in
    let composes : Composes old.program start instruction.length (is_told instruction.request) old.state.values values positions = all old.program start running.state.values starts whole in
    let at : whole.file ≡ file_at old.program start.file = sym (ap (λ o. unwrap_or o no_file) whole.there) in
    let is_state : new.state ≡ record old.state { values = values } = ap (λ (k : Stepper). k.state) same in
    let as_long : instruction.length ≡ (file_at old.program start.file).record_length = whole.size ∙ ap (λ (f : FileLine). f.record_length) at in
    let told : is_told instruction.request ≡ not (is_printer (file_at old.program start.file).device) =
    told_is old.program start whole.file instruction.request whole.request ∙ ap (λ (f : FileLine). not (is_printer f.device)) at in
    record {
      same = same ∙ ap (λ (s : State). let k : Stepper = record old { state = s; composition = new.composition } in k) (sym is_state);
      sound = let P : State → Type 0 = λ s. AreSound old.program s in subst P (sym is_state) (record { values = composes.sound; current = running.state.current });
      sized = ap (λ (ps : List (Option ℕ)). length ps) composed_so ∙ composes.sized ∙ as_long;
      composes = λ line line_is.
          (λ i. composed (own old) line.fields (record { positions = replicate (sym as_long i) (first_position (sym told i)); after = held_by old }))
          ∙ (sym (composes.composed line (others old.program old.state) line_is)
          ∙ (ap (λ ps. let c : Composed = record { positions = ps; after = held old.program values (others old.program old.state) } in c) (sym composed_so)
          ∙ ap (λ (s : State). let c : Composed = record { positions = new.composition; after = environment old.program s } in c) (sym is_state)));
    }

-- the places of a walk fit 64 bits
pub place_fits : (c : Stepper) (w : Walk) (place : ℕ) → IsDue c w place → Fits w64 (place + 1)
place_fits c w place due = by w (slice_get_within (starts_of c.program.starts w) place due.start due.there)
  where
    by : (w : Walk) → place < length (starts_of c.program.starts w) → Fits w64 (place + 1)
    by walk.Beginning within = record { fits = omega (arith, within, c.program.starts.beginning.ok.0, c.program.starts.beginning.small) }
    by walk.Totals within = record { fits = omega (arith, within, c.program.starts.totals.ok.0, c.program.starts.totals.small) }
    by walk.Exceptions within = record { fits = omega (arith, within, c.program.starts.exceptions.ok.0, c.program.starts.exceptions.small) }
    by walk.Overflow within = record { fits = omega (arith, within, c.program.starts.overflow.ok.0, c.program.starts.overflow.small) }

-- the lines of a printer have 1 to 132 positions
printable : (d : Device) (n : ℕ) → is_printer d ≡ true → is_between 1 (longest_record d) n ≡ true → (1 ≤ n) × (n ≤ 132)
printable Printer n is h = let both = and_parts (nat_le 1 n) (nat_le n 132) h in (at_most 1 n both.0, at_most n 132 both.1)
printable CardReader n is h = absurd (true≢false (sym is))
printable Disk n is h = absurd (true≢false (sym is))

-- the printed text is the same if the record begins blank
begun_alike : (printed_so : Bool) (print : List ℕ → Rest) (store : List (Option ℕ) → Rest) (source : Source) (fields : List (OutputField Name)) (n : ℕ) (e : Environment)
    → (let c : Composed = composed source fields (record { positions = replicate n None; after = e }) in (if printed_so then print (filled c.positions) else store c.positions) c.after)
    ≡ (let c : Composed = composed source fields (record { positions = replicate n (first_position (not printed_so)); after = e }) in (if printed_so then print (filled c.positions) else store c.positions) c.after)
begun_alike false print store source fields n e = refl
begun_alike true print store source fields n e =
    let alike : Alike _ _ = composed_alike source fields (record { positions = replicate n None; after = e }) (record { positions = replicate n (first_position false); after = e }) (begins_alike n e) in
    λ i. print (alike.filled i) (alike.after i)

-- the line is composed, then printed or written to its file
composed_runs : (old mid : Stepper) (w : Walk) (place : ℕ) (start : OutputStart) (line : Output) → IsPut old w place start line → ComposesLine old mid start
    → here old (λ source program progress. lines_from source program progress w place)
    ≡ here mid (λ source program progress. (if is_printer (file_at program start.file).device then printed source line (filled mid.composition) (lines_from source program progress w (place + 1))
    else (λ e. ask (disk_request (file_at program start.file) line mid.composition e) (λ answer. stored_or_halted (again source) (lines_from source program progress w (place + 1)) answer e))))
unfolding file_line_put
composed_runs old mid w place start line put composes =
    let go : Rest = lines_from (own old) old.program old.progress w (place + 1) in
    let file : FileLine = file_at old.program start.file in
    put.runs
    ∙ (begun_alike (is_printer file.device) (λ text. printed (own old) line text go) (λ positions e. ask (disk_request file line positions e) (λ answer. stored_or_halted (again (own old)) go answer e))
    (own old) line.fields file.record_length (held_by old)
    ∙ ap (λ (c : Composed). (if is_printer file.device then printed (own old) line (filled c.positions) go else (λ e. ask (disk_request file line c.positions e) (λ answer. stored_or_halted (again (own old)) go answer e))) c.after)
    (composes.composes line put.is_line.there)
    ∙ sym (ap (λ (k : Stepper). here k (λ source program progress. (if is_printer (file_at program start.file).device then printed source line (filled mid.composition) (lines_from source program progress w (place + 1))
    else (λ e. ask (disk_request (file_at program start.file) line mid.composition e) (λ answer. stored_or_halted (again source) (lines_from source program progress w (place + 1)) answer e))))) composes.same))

composed_program : (old mid : Stepper) (start : OutputStart) → ComposesLine old mid start → mid.program ≡ old.program
composed_program old mid start composes = ap (λ (k : Stepper). k.program) composes.same

-- ---- the composed line is written
-- the instruction of the composed line, as it is read again
pub record IsComposed (old mid : Stepper) (w : Walk) (place : ℕ) (start : OutputStart) (line : Output) (instruction : OutputInstruction) : Type 0 where
  pub put : IsPut old w place start line
  pub composes : ComposesLine old mid start
  pub slot : instruction.file ≡ start.file
  pub whole : IsWhole old.program start instruction

pub is_composed : (old mid : Stepper) (w : Walk) (place number : ℕ) (instruction : OutputInstruction) → IsRunning old → (due : IsDue old w place)
    → slice_get (own_starts old.program.starts) number ≡ slice_get (starts_of old.program.starts w) place
    → ((start : OutputStart) → slice_get (own_starts old.program.starts) number ≡ Some start → ComposesLine old mid start)
    → instruction ≡ get_or old.outputs.lines.items number instruction → (line : Output) × IsComposed old mid w place due.start line instruction
is_composed old mid w place number instruction running due same composing read =
    let is = due_line old w place number instruction running due same read in
    (is.line, record { put = is.put; composes = composing due.start (same ∙ due.there); slot = is.slot; whole = is.whole })

whole_file : (old : Stepper) (start : OutputStart) (instruction : OutputInstruction) (whole : IsWhole old.program start instruction) → whole.file ≡ file_at old.program start.file
whole_file old start instruction whole = sym (ap (λ o. unwrap_or o no_file) whole.there)

-- a printed line
printing_of : (p : Program) (start : OutputStart) (file : FileLine) (request : LineRequest) (spacing : Spacing) → request ≡ lines.Print spacing → IsLineRequest p start file request → IsPrinting p start file spacing
printing_of p start file request spacing is asked = subst (λ (r : LineRequest). IsLineRequest p start file r) is asked

storing_of : (p : Program) (start : OutputStart) (file : FileLine) (request : LineRequest) (asked : DiskRequest) → request ≡ lines.Record asked → IsLineRequest p start file request → IsStoring p start file asked
storing_of p start file request asked is all = subst (λ (r : LineRequest). IsLineRequest p start file r) is all

pub print_line : (old mid : Stepper) (w : Walk) (place : ℕ) (start : OutputStart) (line : Output) (instruction : OutputInstruction) (spacing : Spacing) → IsComposed old mid w place start line instruction
    → instruction.request ≡ lines.Print spacing → (1 ≤ length mid.composition) × (length mid.composition ≤ 132)
print_line old mid w place start line instruction spacing is asked =
    let printer : is_printer (file_at old.program start.file).device ≡ true =
    ap (λ (f : FileLine). is_printer f.device) (sym (whole_file old start instruction is.whole)) ∙ (printing_of old.program start is.whole.file instruction.request spacing asked is.whole.request).printer in
    let P : ℕ → Type 0 = λ n. (1 ≤ n) × (n ≤ 132) in
    subst P (sym is.composes.sized) (printable (file_at old.program start.file).device (file_at old.program start.file).record_length printer (file_ranged old.program start.file is.put.within))

pub print_ranged : (old mid : Stepper) (w : Walk) (place : ℕ) (start : OutputStart) (line : Output) (instruction : OutputInstruction) (spacing : Spacing) → IsComposed old mid w place start line instruction
    → instruction.request ≡ lines.Print spacing → spacing_in_range spacing ≡ true
print_ranged old mid w place start line instruction spacing is asked = (printing_of old.program start is.whole.file instruction.request spacing asked is.whole.request).ranged

pub line_printed : (old mid new : Stepper) (w : Walk) (place : ℕ) (start : OutputStart) (line : Output) (instruction : OutputInstruction) (spacing : Spacing) → IsComposed old mid w place start line instruction
    → instruction.request ≡ lines.Print spacing
    → ((line : Output) → line.spacing ≡ spacing → GoesOn mid new (here mid (λ source program progress. printed source line (filled mid.composition) (lines_from source program progress w (place + 1)))))
    → GoesOn old new (here old (λ source program progress. lines_from source program progress w place))
line_printed old mid new w place start line instruction spacing is asked goes =
    let printing = printing_of old.program start is.whole.file instruction.request spacing asked is.whole.request in
    let program : mid.program ≡ old.program = composed_program old mid start is.composes in
    let printer : is_printer (file_at mid.program start.file).device ≡ true =
    ap (λ (p : Program). is_printer (file_at p start.file).device) program ∙ (ap (λ (f : FileLine). is_printer f.device) (sym (whole_file old start instruction is.whole)) ∙ printing.printer) in
    goes_then old mid new _ _ program
    (composed_runs old mid w place start line is.put is.composes
    ∙ ap (λ (b : Bool). here mid (λ source program progress. (if b then printed source line (filled mid.composition) (lines_from source program progress w (place + 1))
    else (λ e. ask (disk_request (file_at program start.file) line mid.composition e) (λ answer. stored_or_halted (again source) (lines_from source program progress w (place + 1)) answer e))))) printer)
    (goes line (printing.line line is.put.is_line.there))

-- a line that is written to a file
asks_for : (old : Stepper) (start : OutputStart) (line : Output) (instruction : OutputInstruction) (asked : DiskRequest) → IsLineAt old.program start line → instruction.file ≡ start.file
    → (whole : IsWhole old.program start instruction) → IsStoring old.program start whole.file asked → AsksFor old.program instruction.file line asked
asks_for old start line instruction asked line_is slot whole storing =
    let at : whole.file ≡ file_at old.program instruction.file = whole_file old start instruction whole ∙ ap (file_at old.program) (sym slot) in
    λ positions e.
    ap (λ (f : FileLine). disk_request f line positions e) (sym at) ∙ (storing.line line positions e line_is ∙ ap (λ (f : FileLine). disk_spec.request_of asked f positions e) at)

-- the line is the one before the next
pub line_past : (old mid : Stepper) (w : Walk) (place : ℕ) (due : IsDue old w place) (line : Output) (instruction : OutputInstruction) → IsComposed old mid w place due.start line instruction → IsPastLine mid.program w (place + 1)
line_past old mid w place due line instruction is =
    let P : Program → Type 0 = λ p. IsPastLine p w (place + 1) in
    subst P (sym (composed_program old mid due.start is.composes)) (record { place = place; start = due.start; there = due.there; is_next = refl })

-- the line's file on disk can take the record
pub stores_line : (old mid : Stepper) (w : Walk) (place : ℕ) (start : OutputStart) (line : Output) (instruction : OutputInstruction) (asked : DiskRequest) → IsComposed old mid w place start line instruction
    → instruction.request ≡ lines.Record asked → CanStore mid instruction.file asked
stores_line old mid w place start line instruction asked is request =
    let storing = storing_of old.program start is.whole.file instruction.request asked request is.whole.request in
    let program : mid.program ≡ old.program = composed_program old mid start is.composes in
    let listed : slice_get old.program.files.items start.file ≡ Some (file_at old.program start.file) = file_within old.program start.file is.put.within in
    let device : is_printer (file_at old.program start.file).device ≡ false = ap (λ (f : FileLine). is_printer f.device) (sym (whole_file old start instruction is.whole)) ∙ storing.other in
    let takes : IsPutOnDisk (file_at old.program start.file) =
    put_on_disk (file_at old.program start.file) line.is_addition (file_tabled old.program start.file (file_at old.program start.file) listed)
    (line_taken old.program start line (file_at old.program start.file) is.put.is_line.starts is.put.is_line.there listed) device in
    let there : slice_get old.program.files.items instruction.file ≡ Some (file_at old.program start.file) = ap (slice_get old.program.files.items) is.slot ∙ listed in
    record {
      line = line;
      asks = let P : Program → Type 0 = λ p. AsksFor p instruction.file line asked in
          subst P (sym program) (asks_for old start line instruction asked is.put.is_line.there is.slot is.whole storing);
      fits = let P : Program → Type 0 = λ p. IsDiskFile p.files.items instruction.file (TakesRecord (length mid.composition)) in
          subst P (sym program) (record { line = file_at old.program start.file; there = there; on_disk = takes.on_disk; suits = record { long = is.composes.sized; put_out = takes.put_out } });
    }

pub line_stored : (old mid new : Stepper) (w : Walk) (place : ℕ) (start : OutputStart) (line : Output) (instruction : OutputInstruction) (asked : DiskRequest) → IsComposed old mid w place start line instruction
    → instruction.request ≡ lines.Record asked
    → ((line : Output) → AsksFor mid.program instruction.file line asked → GoesOn mid new (here mid (λ source program progress e. ask (disk_request (file_at program instruction.file) line mid.composition e)
    (λ answer. stored_or_halted (again source) (lines_from source program progress w (place + 1)) answer e))))
    → GoesOn old new (here old (λ source program progress. lines_from source program progress w place))
line_stored old mid new w place start line instruction asked is request goes =
    let storing = storing_of old.program start is.whole.file instruction.request asked request is.whole.request in
    let program : mid.program ≡ old.program = composed_program old mid start is.composes in
    let printer : is_printer (file_at mid.program start.file).device ≡ false =
    ap (λ (p : Program). is_printer (file_at p start.file).device) program ∙ (ap (λ (f : FileLine). is_printer f.device) (sym (whole_file old start instruction is.whole)) ∙ storing.other) in
    let asks : AsksFor mid.program instruction.file line asked =
    let P : Program → Type 0 = λ p. AsksFor p instruction.file line asked in subst P (sym program) (asks_for old start line instruction asked is.put.is_line.there is.slot is.whole storing) in
    goes_then old mid new _ _ program
    (composed_runs old mid w place start line is.put is.composes
    ∙ (ap (λ (b : Bool). here mid (λ source program progress. (if b then printed source line (filled mid.composition) (lines_from source program progress w (place + 1))
    else (λ e. ask (disk_request (file_at program start.file) line mid.composition e) (λ answer. stored_or_halted (again source) (lines_from source program progress w (place + 1)) answer e))))) printer
    ∙ ap (λ (n : ℕ). here mid (λ source program progress e. ask (disk_request (file_at program n) line mid.composition e) (λ answer. stored_or_halted (again source) (lines_from source program progress w (place + 1)) answer e))) (sym is.slot)))
    (goes line asks)

-- ---- lines from a place on
