-- Taking the head of a file, with everything kept about it.
use Rattle.std.proofs.Common.{◌≡◌, ℕ, ◌<◌, length, get_or, List, [], Bool, true, ◌||◌, not, refl, sym, ◌∙◌, ap, subst}
use Rattle.std.specs.Prelude.{Option, Some, is_some, unwrap_or, option_map, slice_get}
use Rattle.std.specs.List.{All, list_any, list_all}
use Rattle.std.proofs.lemmas.List.{length-map, get_or-map}
use Rattle.std.proofs.lemmas.Option.{slice_get-get_or, slice_get-map}
use Rattle.std.specs.Option.{option_and_then}
use Rattle.s3_meaning.specs.Selection as meaning
use Rattle.s3_meaning.specs.Selection.{Selected}
use Rattle.s3_program.specs.declared.program.Program.{Program}
use Rattle.s3_program.specs.declared.starts.TypeStart.{TypeStart}
use Rattle.s3_match.specs.declared.heads.InputFile.{InputFile}
use Rattle.s3_match.specs.declared.reading.Reading.{Reading}
use Rattle.s3_match.specs.Inner.Heads.{file_at, input_of}
use Rattle.s3_match.specs.Inner.Reading.{bytes_at, head_with, reading_in, IsReading, IsUnreadAt}
use Rattle.s3_match.specs.Inner.Selecting.{selected_at, inputs_of}
use Rattle.s3_match.specs.Inner.Types.{is_type_start, kind_at}
use Rattle.s3_match.proofs.FieldLemmas.{kind_fields}
use Rattle.s3_cycle.proofs.HeadLemmas.{EndWithin, IsWithin, heads_kept, heads_meant, vacated_within}
use Rattle.s3_match.specs.Inner.Choice.{IsHeadAt}
use Rattle.s3_cycle.specs.declared.stepper.Stepper.{Stepper}
use Rattle.s3_cycle.specs.Inner.Selecting.{Takes}
use Rattle.s3_cycle.specs.Inner.Rest.{fields_at, selected_of}
use Rattle.s3_cycle.specs.Inner.Going.{IsHeadWithin, IsRunning}

-- the heads of other files stay
pub heads_taken : (program : Program) (old new : Reading) (selected : Selected) → IsReading program old → IsReading program new → All (IsHeadWithin program) old.files.items
    → reading_in program new ≡ meaning.taken (reading_in program old) selected → All (IsHeadWithin program) new.files.items
heads_taken program old new selected before sound heads same =
    heads_kept program new.files.items sound.inputs
    (subst (All IsWithin) (sym (ap (λ (r : meaning.Reading). r.files) same))
    (vacated_within selected.file.name (inputs_of program old.files.items) (heads_meant program old.files.items before.inputs heads)))

-- ---- the head itself
selectable_stands : (input : meaning.InputFile) (selected : Selected) → meaning.selectable input ≡ Some selected → input.standing ≡ meaning.Stands selected.head
selectable_stands input selected e = by input.standing e
  where
    by : (standing : meaning.Standing) → meaning.selectable (record input { standing = standing }) ≡ Some selected → standing ≡ meaning.Stands selected.head
    by meaning.Unread e = cc
    by meaning.Ended e = cc
    by (meaning.Stands head) e = ap (λ (o : Option Selected). meaning.Stands (unwrap_or (option_map (λ (s : Selected). s.head) o) head)) e

selected_there : (program : Program) (files : List InputFile) (place : ℕ) (x : InputFile) → place < length files → x ≡ get_or files place x → selected_at program files place ≡ meaning.selectable (input_of program x)
selected_there program files place x within there =
    ap (λ (o : Option InputFile). option_and_then (λ input. meaning.selectable (input_of program input)) o) (slice_get-get_or files place x within) ∙ ap (λ (y : InputFile). meaning.selectable (input_of program y)) (sym there)

pub taken_fields : (program : Program) (old : Reading) (bytes : List ℕ) (place : ℕ) (x : InputFile) (start : TypeStart) → place < length old.files.items → x ≡ get_or old.files.items place x → IsReading program old
    → All (IsHeadWithin program) old.files.items → is_type_start program start ≡ true → selected_at program old.files.items place ≡ Some (head_with program x start) → bytes ≡ bytes_at old.files.items place → EndWithin bytes (fields_at program start.fields)
taken_fields program old bytes place x start within there sound heads starts selected same =
    subst (λ (bytes : List ℕ). EndWithin bytes (fields_at program start.fields)) (sym (same ∙ bytes_there))
    (subst (EndWithin x.bytes) (kind_fields program start starts)
    (is_within (head_with program x start).head (selectable_stands (input_of program x) (head_with program x start) (sym (selected_there program old.files.items place x within there) ∙ selected))))
  where
    bytes_there : bytes_at old.files.items place ≡ x.bytes
    bytes_there =
        ap (λ (o : Option InputFile). unwrap_or (option_map (λ (input : InputFile). input.bytes) o) []) (slice_get-get_or old.files.items place x within)
        ∙ ap (λ (y : InputFile). y.bytes) (sym there)

    as_many : place < length (inputs_of program old.files.items)
    as_many = subst (λ (n : ℕ). place < n) (sym (length-map old.files.items _)) within

    is_within : IsWithin (input_of program x)
    is_within =
        subst IsWithin (get_or-map (input_of program) old.files.items place x (input_of program x) within ∙ ap (input_of program) (sym there))
        (heads_meant program old.files.items sound.inputs heads place (input_of program x) as_many)

abbrev slot_at : List InputFile → ℕ → ℕ
slot_at files place = unwrap_or (option_map (λ (input : InputFile). input.file) (slice_get files place)) 0

pub takes : (old : Stepper) (reading : Reading) (place : ℕ) (x : InputFile) (start : TypeStart) (matched : Bool) → IsRunning old → IsHeadAt old.progress.reading.files.items place → x ≡ get_or old.progress.reading.files.items place x
    → is_type_start old.program start ≡ true → selected_at old.program old.progress.reading.files.items place ≡ Some (head_with old.program x start)
    → ((selected : Selected) → selected_at old.program old.progress.reading.files.items place ≡ Some selected → matched ≡ meaning.is_matched (reading_in old.program old.progress.reading) selected)
    → IsReading old.program reading
    → ((selected : Selected) → selected_at old.program old.progress.reading.files.items place ≡ Some selected → reading_in old.program reading ≡ meaning.taken (reading_in old.program old.progress.reading) selected)
    → IsUnreadAt reading.files.items place → list_any meaning.is_unread (reading_in old.program reading).files ≡ true → bytes_at reading.files.items place ≡ bytes_at old.progress.reading.files.items place
    → Takes old (record old { progress = record old.progress { reading = reading } }) place (record { place = place; start = start; number = x.reads; is_matched = matched })
takes old reading place x start matched running head there starts selected is_matched sound taken unread some bytes = record {
  same = refl;
  reading = sound;
  heads = heads_taken old.program old.progress.reading reading (head_with old.program x start) running.reading sound running.heads (taken (head_with old.program x start) selected);
  is_taken = record {
    record_there = record {
      within = unread.within;
      starts = starts;
      fields = taken_fields old.program old.progress.reading (bytes_at reading.files.items place) place x start head.within there running.reading running.heads starts selected bytes;
    };
    begins = ap (λ (b : Bool). b || list_all (λ input. not (is_some (meaning.head_of input))) (reading_in old.program reading).files) some;
  };
  selected = own_head;
  rest = taken _ own_head;
  matched = is_matched _ own_head;
}
  where
    same_slot : x.file ≡ slot_at reading.files.items place
    same_slot =
        ap (λ (y : InputFile). y.file) there
        ∙ sym (ap (λ (o : Option InputFile). unwrap_or (option_map (λ (input : InputFile). input.file) o) 0) (slice_get-get_or old.progress.reading.files.items place x head.within))
        ∙ sym (ap (λ (o : Option ℕ). unwrap_or o 0) (slice_get-map (λ (input : InputFile). input.file) old.progress.reading.files.items place))
        ∙ ap (λ (slots : List ℕ). unwrap_or (slice_get slots place) 0) (running.reading.slots ∙ sym sound.slots)
        ∙ ap (λ (o : Option ℕ). unwrap_or o 0) (slice_get-map (λ (input : InputFile). input.file) reading.files.items place)

    same_bytes : x.bytes ≡ bytes_at reading.files.items place
    same_bytes =
        ap (λ (y : InputFile). y.bytes) there
        ∙ sym (ap (λ (o : Option InputFile). unwrap_or (option_map (λ (input : InputFile). input.bytes) o) []) (slice_get-get_or old.progress.reading.files.items place x head.within))
        ∙ sym bytes

    own_head : selected_at old.program old.progress.reading.files.items place ≡ Some (selected_of old.program (record old.progress { reading = reading }) (record { place = place; start = start; number = x.reads; is_matched = matched }))
    own_head = selected ∙ (λ i. Some (record {
      file = file_at old.program (same_slot i);
      head = record { number = x.reads; bytes = same_bytes i; kind = kind_at old.program start };
    }))
