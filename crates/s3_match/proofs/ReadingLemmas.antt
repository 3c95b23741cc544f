-- The files of a reading as one of them changes.
use Rattle.std.proofs.Common.{◌≡◌, ℕ, ◌<◌, length, get_or, set, map, List, [], ◌∷◌, Bool, true, false, refl, sym, ◌∙◌, ap, subst, zero, suc, arith}
use Rattle.std.specs.Prelude.{Option, Some, None, option_map, slice_get, unwrap_or, if◌then◌else◌}
use Rattle.std.specs.Option.{option_and_then}
use Rattle.std.specs.List.{All}
use Rattle.std.proofs.lemmas.Bool.{true≢false}
use Rattle.std.proofs.lemmas.List.{map-set, length-set, length-map, get_or-map, get_or-set_same, set-get_or}
use Rattle.std.proofs.lemmas.List.Elements.{All-set}
use Rattle.std.proofs.lemmas.Option.{slice_get-get_or}
use Rattle.s3_lines.specs.declared.sheet.FileLine.{FileLine}
use Rattle.s3_meaning.specs.Selection as meaning
use Rattle.s3_program.specs.declared.mark.Key.TheVariants as key
use Rattle.s3_program.specs.declared.program.Program.{Program}
use Rattle.s3_program.specs.Inner.Tables.{name_in}
use Rattle.s3_program.specs.FileEntries.{file_entry}
use Rattle.s3_program.specs.declared.starts.TypeStart.{TypeStart}
use Rattle.s3_match.specs.declared.heads.InputFile.{InputFile}
use Rattle.s3_match.specs.declared.heads.Standing.{Standing}
use Rattle.s3_match.specs.declared.heads.Standing.TheVariants as at
use Rattle.s3_match.specs.declared.keys.RecordKey.{RecordKey}
use Rattle.s3_match.specs.declared.reading.Reading.{Reading}
use Rattle.s3_match.specs.Inner.Types.{tables_in, is_type_start}
use Rattle.s3_match.specs.Inner.Keys.{key_in}
use Rattle.s3_match.specs.Inner.Levels.{AreLevels}
use Rattle.s3_match.specs.Inner.Heads.{no_file, file_at, is_unread, is_unread_standing, has_head, is_head_standing, input_of, standing_as, unread as unread_file, IsInput}
use Rattle.s3_match.specs.Inner.Selecting.{inputs_of, reading_of, selected_of, selected_at}
use Rattle.s3_match.specs.Inner.Reading.{no_input, input_at, slots_of, bytes_at, is_unread_at, changed_at, head_with, IsReading, AreOnlyTypes, ArePlacesOf, AreLinePlaces, IsUnreadAt}
use Rattle.s3_match.proofs.SelectLemmas.{with_standing}
use Rattle.s3_match.proofs.SlotLemmas.{slot_kept}

-- ---- a file without a head is sound
pub headless : (program : Program) (input : InputFile) → has_head input ≡ false → IsInput program input
headless program input none = record { head = λ start e. absurd (true≢false (sym (ap is_head_standing e) ∙ none)) }

-- a file of which nothing is read any more
unread_is : (standing : Standing) → is_unread_standing standing ≡ true → standing ≡ at.Unread
unread_is at.Unread unread = refl
unread_is (at.Stands start) unread = cc
unread_is at.Ended unread = cc

pub nothing_read : (program : Program) (old vacated new : InputFile) → is_unread vacated ≡ true → new.standing ≡ vacated.standing → new.file ≡ old.file → new.reads ≡ 0 → key_in new.last_key ≡ None → input_of program new ≡ unread_file program old.file
nothing_read program old vacated new unread standing file reads key = λ i. record {
  file = file_at program (file i);
  standing = ap (standing_as program new.reads new.bytes) (standing ∙ unread_is vacated.standing unread) i;
  reads = reads i;
  last_key = key i;
}

pub unread_headless : (input : InputFile) → is_unread input ≡ true → has_head input ≡ false
unread_headless input unread = by input.standing unread
  where
    by : (standing : Standing) → is_unread_standing standing ≡ true → is_head_standing standing ≡ false
    by at.Unread e = refl
    by (at.Stands start) e = absurd (true≢false (sym e))
    by at.Ended e = refl

-- ---- the file at a place
pub slot_there : (files : List InputFile) (k : ℕ) (d : InputFile) → k < length files → get_or (slots_of files) k 0 ≡ (get_or files k d).file
slot_there files k d within = get_or-map (λ (input : InputFile). input.file) files k d 0 within

pub input_there : (program : Program) (files : List InputFile) (k : ℕ) (x : InputFile) → k < length files → x ≡ get_or files k x → input_at (inputs_of program files) k ≡ input_of program x
input_there program files k x within there = get_or-map (input_of program) files k x no_input within ∙ ap (input_of program) (sym there)

pub slots_stay : (files : List InputFile) (k : ℕ) (x y : InputFile) → k < length files → x ≡ get_or files k x → y.file ≡ x.file → slots_of (set files k y) ≡ slots_of files
slots_stay files k x y within there same =
    map-set (λ (input : InputFile). input.file) files k y
    ∙ ap (set (slots_of files) k) (same ∙ ap (λ (input : InputFile). input.file) there ∙ sym (slot_there files k x within))
    ∙ set-get_or (slots_of files) k 0

pub still_sound : (program : Program) (old new : Reading) (k : ℕ) (x y : InputFile) → k < length old.files.items → x ≡ get_or old.files.items k x → new.files.items ≡ set old.files.items k y
    → new.match_levels ≡ old.match_levels → new.control_levels ≡ old.control_levels → new.only_types ≡ old.only_types → new.type_places ≡ old.type_places → new.line_places ≡ old.line_places → y.file ≡ x.file → IsInput program y → IsReading program old → IsReading program new
still_sound program old new k x y within there e matches controls types numbers lines same sound reading = record {
  inputs = subst (All (IsInput program)) (sym e) (All-set (IsInput program) old.files.items k y sound reading.inputs);
  slots = ap slots_of e ∙ slots_stay old.files.items k x y within there same ∙ reading.slots;
  match_levels = subst (AreLevels key.Match program) (sym matches) reading.match_levels;
  control_levels = subst (AreLevels key.Control program) (sym controls) reading.control_levels;
  only_types = subst (λ (xs : List (Option TypeStart)). AreOnlyTypes program xs) (sym (ap (λ v. v.items) types)) reading.only_types;
  type_places = subst (λ (xs : List ℕ). ArePlacesOf program.inputs.items xs) (sym (ap (λ v. v.items) numbers)) reading.type_places;
  line_places = subst (λ (xs : List ℕ). AreLinePlaces program.inputs.items xs) (sym (ap (λ v. v.items) lines)) reading.line_places;
}

pub inputs_change : (program : Program) (files : List InputFile) (k : ℕ) (x y : InputFile) (change : meaning.InputFile → meaning.InputFile) → k < length files → x ≡ get_or files k x
    → input_of program y ≡ change (input_of program x) → inputs_of program (set files k y) ≡ set (inputs_of program files) k (change (input_at (inputs_of program files) k))
inputs_change program files k x y change within there e =
    map-set (input_of program) files k y ∙ ap (set (inputs_of program files) k) (e ∙ ap change (sym (input_there program files k x within there)))

pub changes_there : (program : Program) (files : List InputFile) (key : RecordKey) (k : ℕ) (x y : InputFile) (change : meaning.InputFile → meaning.InputFile) → k < length files → x ≡ get_or files k x
    → input_of program y ≡ change (input_of program x) → reading_of program (set files k y) key ≡ changed_at k change (reading_of program files key)
changes_there program files key k x y change within there changed = λ i. record { files = inputs_change program files k x y change within there changed i; primary_key = key_in key }

-- the file changes only where the test holds
pub changes_if : (program : Program) (files : List InputFile) (key : RecordKey) (k : ℕ) (x y : InputFile) (b : Bool) (change : meaning.InputFile → meaning.InputFile) → k < length files → x ≡ get_or files k x
    → input_of program y ≡ (if b then change (input_of program x) else input_of program x)
    → reading_of program (set files k y) key ≡ (if b then changed_at k change (reading_of program files key) else reading_of program files key)
changes_if program files key k x y true change within there changed = changes_there program files key k x y change within there changed
changes_if program files key k x y false change within there changed =
    changes_there program files key k x y (λ input. input) within there changed
    ∙ (λ i. record { files = set-get_or (inputs_of program files) k no_input i; primary_key = key_in key })

-- ---- whether it is to be read
pub unread_here : (files : List InputFile) (k : ℕ) (d : InputFile) → k < length files → is_unread_at files k ≡ is_unread (get_or files k d)
unread_here files k d within = ap (λ (o : Option InputFile). unwrap_or (option_map is_unread o) false) (slice_get-get_or files k d within)

pub unread_set : (files : List InputFile) (k : ℕ) (y : InputFile) → k < length files → is_unread_at (set files k y) k ≡ is_unread y
unread_set files k y within = unread_here (set files k y) k y (omega (arith, length-set files k y, within)) ∙ ap is_unread (get_or-set_same files k y y within)

pub still_unread : (files new : List InputFile) (k : ℕ) (y : InputFile) → k < length files → new ≡ set files k y → is_unread y ≡ true → IsUnreadAt new k
still_unread files new k y within e unread = record {
  within = omega (arith, ap length e, length-set files k y, within);
  unread = ap (λ (xs : List InputFile). is_unread_at xs k) e ∙ unread_set files k y within ∙ unread;
}

-- ---- its bytes
bytes_here : (files : List InputFile) (k : ℕ) (d : InputFile) → k < length files → bytes_at files k ≡ (get_or files k d).bytes
bytes_here files k d within = ap (λ (o : Option InputFile). unwrap_or (option_map (λ (input : InputFile). input.bytes) o) []) (slice_get-get_or files k d within)

pub bytes_stay : (files : List InputFile) (k : ℕ) (x y : InputFile) → k < length files → x ≡ get_or files k x → y.bytes ≡ x.bytes → bytes_at (set files k y) k ≡ bytes_at files k
bytes_stay files k x y within there same =
    bytes_here (set files k y) k y (omega (arith, length-set files k y, within))
    ∙ ap (λ (input : InputFile). input.bytes) (get_or-set_same files k y y within)
    ∙ same
    ∙ ap (λ (input : InputFile). input.bytes) there
    ∙ sym (bytes_here files k x within)

-- ---- the slots of a reading
pub input_slot : (program : Program) (reading : Reading) (k : ℕ) (x : InputFile) → IsReading program reading → k < length reading.files.items → x ≡ get_or reading.files.items k x → x.file < length program.files.items
input_slot program reading k x sound within there =
    let at = (slot_kept program (slots_of reading.files.items) k sound.slots (omega (arith, length-map reading.files.items (λ (input : InputFile). input.file), within))).0 in
    subst (λ (n : ℕ). n < length program.files.items) (slot_there reading.files.items k x within ∙ ap (λ (input : InputFile). input.file) (sym there)) at

-- the name of a slot is that of its file
pub file_named : (program : Program) (file : ℕ) → file < length program.files.items → name_in (tables_in program).files file ≡ (file_at program file).name
file_named program file within = by program.files.items file within
  where
    by : (files : List FileLine) (k : ℕ) → k < length files → name_in (map file_entry files) k ≡ (unwrap_or (slice_get files k) no_file).name
    by [] k h = absurd (omega (arith, h))
    by (file ∷ files) zero h = refl
    by (file ∷ files) (suc k) h = by files k (omega (arith, h))

-- ---- the head at a place
head_shown : (program : Program) (files : List InputFile) (k : ℕ) (input x : InputFile) (start : TypeStart) → k < length files → input ≡ get_or files k input → x ≡ get_or files k x → x.standing ≡ at.Stands start
    → selected_at program files k ≡ Some (head_with program input start)
head_shown program files k input x start within there also stands =
    ap (option_and_then (selected_of program)) (slice_get-get_or files k input within)
    ∙ ap (selected_of program) (sym there)
    ∙ ap (λ (standing : Standing). meaning.selectable (with_standing program input standing)) (ap (λ (y : InputFile). y.standing) (same_item files k input x within there also) ∙ stands)
  where
    same_item : (files : List InputFile) (k : ℕ) (x y : InputFile) → k < length files → x ≡ get_or files k x → y ≡ get_or files k y → x ≡ y
    same_item [] k x y h e f = absurd (omega (arith, h))
    same_item (z ∷ zs) zero x y h e f = e ∙ sym f
    same_item (z ∷ zs) (suc k) x y h e f = same_item zs k x y (omega (arith, h)) e f

pub head_is : (program : Program) (files : List InputFile) (k : ℕ) (x : InputFile) (start : TypeStart) → k < length files → x ≡ get_or files k x → x.standing ≡ at.Stands start
    → (input : InputFile) → input ≡ get_or files k input → selected_at program files k ≡ Some (head_with program input start)
head_is program files k x start within there stands input also = head_shown program files k input x start within also there stands

pub head_starts : (program : Program) (reading : Reading) (k : ℕ) (x : InputFile) (start : TypeStart) → k < length reading.files.items → x ≡ get_or reading.files.items k x → x.standing ≡ at.Stands start → IsReading program reading
    → is_type_start program start ≡ true
head_starts program reading k x start within there stands sound = ((subst (IsInput program) (sym there) (sound.inputs k x within)).head start stands).starts
