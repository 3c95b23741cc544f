-- The current records of files: one of them is set.
use Rattle.std.proofs.Common.{◌≡◌, ◌≢◌, ◌==◌, ℕ, zero, suc, ◌<◌, Bool, true, false, List, [], ◌∷◌, length, Option, Some, slice_get, slice_set, get_or, unwrap_or, option_map, option_and_then, if◌then◌else◌, refl, sym, ap, ◌∙◌, arith, length-set, Vec, Global}
use Rattle.std.proofs.Math.Path.{fun_ext}
use Rattle.std.proofs.lemmas.Bool.Decides.{nat_tests}
use Rattle.std.proofs.lemmas.Option.{slice_get-map, slice_get-get_or, slice_get_read, unwrap_or-slice_get}
use Rattle.s3_cards.specs.declared.name.Name.{Name}
use Rattle.s3_cards.specs.Names.{same_name}
use Rattle.s3_lines.specs.declared.sheet.FileLine.{FileLine}
use Rattle.s3_meaning.specs.declared.current.Current.{Current}
use Rattle.s3_meaning.specs.declared.current.Current.TheVariants.{NthRead}
use Rattle.s3_meaning.specs.Environment.{Environment, put_current}
use Rattle.s3_program.specs.declared.program.Program.{Program}
use Rattle.s3_program.specs.Inner.Stands.{parts_of}
use Rattle.s3_program.specs.Inner.Tables.{slot_in}
use Rattle.s3_program.specs.FileEntries.{file_entry}
use Rattle.s3_program.proofs.SlotLemmas.{kept, same_slot}
use Rattle.s3_operations.specs.Inner.Fits.{tables}
use Rattle.s3_operations.specs.Inner.Held.{held}
use Rattle.s3_match.specs.declared.heads.InputFile.{InputFile}
use Rattle.s3_match.specs.Inner.Heads.{no_file, file_at}
use Rattle.s3_match.specs.Inner.Types.{name_of_file}
use Rattle.s3_match.proofs.ReadingLemmas.{file_named, input_slot}
use Rattle.s3_cycle.specs.declared.progress.Selection.{Selection}
use Rattle.s3_cycle.specs.declared.stepper.Stepper.{Stepper}
use Rattle.s3_cycle.specs.Inner.Rest.{selected_of}
use Rattle.s3_cycle.specs.Inner.Environment.{current_in, environment}
use Rattle.s3_cycle.specs.Inner.Going.{Changes, IsRunning, IsTaken}
use Rattle.s3_cycle.proofs.AnswerLemmas.{number_is}

-- ---- one place of a list
get_same : {X : Type 0} (xs : List X) (k : ℕ) (x : X) → k < length xs → slice_get (slice_set xs k x) k ≡ Some x
get_same [] k x h = absurd (omega (arith, h))
get_same (y ∷ ys) zero x h = refl
get_same (y ∷ ys) (suc k) x h = get_same ys k x (omega (arith, h))

get_other : {X : Type 0} (xs : List X) (k j : ℕ) (x : X) → j ≢ k → slice_get (slice_set xs k x) j ≡ slice_get xs j
get_other [] k j x other = refl
get_other (y ∷ ys) zero zero x other = absurd (other refl)
get_other (y ∷ ys) zero (suc j) x other = refl
get_other (y ∷ ys) (suc k) zero x other = refl
get_other (y ∷ ys) (suc k) (suc j) x other = get_other ys k j x (λ (e : j ≡ k). other (ap suc e))

-- ---- the file in a slot
file_there : (p : Program) (file : ℕ) → file < length p.files.items → slice_get (tables p).files file ≡ Some (file_entry (file_at p file))
file_there p file within =
    slice_get-map file_entry p.files.items file
    ∙ ap (option_map file_entry) (slice_get-get_or p.files.items file no_file within ∙ ap (λ (f : FileLine). Some f) (sym (unwrap_or-slice_get p.files.items file no_file)))

own_name : (p : Program) (file : ℕ) (name : Name) → file < length p.files.items → (slot_in (tables p).files name == file) ≡ same_name name (name_of_file p file)
own_name p file name within =
    same_slot (tables p).files file (file_entry (file_at p file)) name (kept (parts_of p) p.valid).files_distinct (file_there p file within) ∙ ap (same_name name) (sym (file_named p file within))

-- ---- the current record of a file
number_not : (m n : ℕ) → (m == n) ≡ false → m ≢ n
number_not m n h = λ (e : m ≡ n). absurd (grind (arith, nat_tests, h))

-- the current record of one file is set or cleared
pub current_set : (p : Program) (current : List (Option Current)) (file : ℕ) (to : Option Current) (name : Name) → file < length p.files.items → length current ≡ length p.files.items
    → current_in p (slice_set current file to) name ≡ (if same_name name (name_of_file p file) then to else current_in p current name)
current_set p current file to name within size = step (same_name name (name_of_file p file)) refl
  where
    at : (b : Bool) → same_name name (name_of_file p file) ≡ b → (slot_in (tables p).files name == file) ≡ b
    at b is = own_name p file name within ∙ is

    value : (o : Option (Option Current)) → slice_get (slice_set current file to) (slot_in (tables p).files name) ≡ o
        → current_in p (slice_set current file to) name ≡ option_and_then (λ (entry : Option Current). entry) o
    value o is = ap (λ (found : Option (Option Current)). option_and_then (λ (entry : Option Current). entry) found) is

    step : (b : Bool) → same_name name (name_of_file p file) ≡ b
        → current_in p (slice_set current file to) name ≡ (if same_name name (name_of_file p file) then to else current_in p current name)
    step true is =
        let slot : slot_in (tables p).files name ≡ file = number_is _ _ (at true is) in
        let here : slice_get (slice_set current file to) (slot_in (tables p).files name) ≡ Some to =
        ap (slice_get (slice_set current file to)) slot ∙ get_same current file to (omega (arith, within, size)) in
        value (Some to) here ∙ sym (ap (λ (b : Bool). if b then to else current_in p current name) is)
    step false is =
        value (slice_get current (slot_in (tables p).files name)) (get_other current file (slot_in (tables p).files name) to (number_not _ _ (at false is)))
        ∙ sym (ap (λ (b : Bool). if b then to else current_in p current name) is)

-- ---- the selected record
pub slot_within : (c : Stepper) (selection : Selection) (x : InputFile) → IsRunning c → IsTaken c.program c.progress selection → x ≡ get_or c.progress.reading.files.items selection.place x → x.file < length c.program.files.items
slot_within c selection x running taken found = input_slot c.program c.progress.reading selection.place x running.reading taken.record_there.within found

pub current_within : (c : Stepper) (selection : Selection) (x : InputFile) → IsRunning c → IsTaken c.program c.progress selection → x ≡ get_or c.progress.reading.files.items selection.place x → x.file < length c.state.current.items
current_within c selection x running taken found = omega (arith, slot_within c selection x running taken found, running.state.current)

selected_file : (c : Stepper) (selection : Selection) (x : InputFile) → IsTaken c.program c.progress selection → x ≡ get_or c.progress.reading.files.items selection.place x
    → (selected_of c.program c.progress selection).file ≡ file_at c.program x.file
selected_file c selection x taken found =
    ap (λ (o : Option InputFile). file_at c.program (unwrap_or (option_map (λ (input : InputFile). input.file) o) 0))
    (slice_get_read c.progress.reading.files.items (length c.progress.reading.files.items) selection.place x refl taken.record_there.within found)

pub current_put : (c : Stepper) (selection : Selection) (x : InputFile) (current : Vec (Option Current) Global) → IsRunning c → IsTaken c.program c.progress selection → x ≡ get_or c.progress.reading.files.items selection.place x
    → current.items ≡ slice_set c.state.current.items x.file (Some (NthRead selection.number))
    → Changes c (record c { state = record c.state { current = current } }) (λ source. put_current (selected_of c.program c.progress selection).file.name (Some (NthRead selection.number)))
unfolding environment held
current_put c selection x current running taken found is =
    let old : Environment = environment c.program c.state in
    let within : x.file < length c.program.files.items = slot_within c selection x running taken found in
    let named : (name : Name) → current_in c.program current.items name
    ≡ (if same_name name (selected_of c.program c.progress selection).file.name then Some (NthRead selection.number) else current_in c.program c.state.current.items name) =
    λ name. ap (λ (items : List (Option Current)). current_in c.program items name) is
    ∙ (current_set c.program c.state.current.items x.file (Some (NthRead selection.number)) name within running.state.current
    ∙ ap (λ (other : Name). if same_name name other then Some (NthRead selection.number) else current_in c.program c.state.current.items name)
    (file_named c.program x.file within ∙ ap (λ (file : FileLine). file.name) (sym (selected_file c selection x taken found)))) in
    record {
      stays = refl;
      sound = record { values = running.state.values; current = ap (λ (items : List (Option Current)). length items) is ∙ (length-set c.state.current.items x.file (Some (NthRead selection.number)) ∙ running.state.current) };
      held = ap (λ (currents : Name → Option Current). record old { current = currents }) (fun_ext named);
    }
