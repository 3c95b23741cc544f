-- The reading as another job of the same program begins.
use Rattle.std.proofs.Common.{◌≡◌, ◌≢◌, ℕ, ◌+◌, ◌<◌, ◌≤◌, ◌++◌, length, length-set, ◌⊎◌, take, drop, get_or, set, map, List, [], ◌∷◌, Bool, true, false, cond, refl, sym, ◌∙◌, ap, subst, zero, suc, inl, inr, add-one, arith, get_or-set_same, get_or-set_other}
use Rattle.std.specs.Prelude.{None, filter}
use Rattle.std.specs.List.{range_with_len}
use Rattle.std.proofs.lemmas.Bool.{cases_lt}
use Rattle.std.proofs.lemmas.List.{map-append, length-map}
use Rattle.s3_lines.specs.declared.sheet.FileLine.{FileLine}
use Rattle.s3_meaning.specs.Source.{is_input}
use Rattle.s3_meaning.specs.Environment.{Environment}
use Rattle.s3_meaning.specs.Selection as meaning
use Rattle.s3_meaning.specs.Cycle.{first_standing, first_reading}
use Rattle.s3_program.specs.declared.program.Program.{Program}
use Rattle.s3_program.specs.Inner.Stands.{source_named}
use Rattle.s3_match.specs.declared.heads.InputFile.{InputFile}
use Rattle.s3_match.specs.declared.keys.RecordKey.{RecordKey}
use Rattle.s3_match.specs.declared.reading.Reading.{Reading}
use Rattle.s3_match.specs.Inner.Keys.{key_in}
use Rattle.s3_match.specs.Inner.Heads.{file_at, input_of}
use Rattle.s3_match.specs.Inner.Selecting.{inputs_of}
use Rattle.s3_match.specs.Inner.BeginningEnvironment.{BeginsWith}
use Rattle.s3_match.specs.Inner.Beginning.{IsFirst, AreFirst}
use Rattle.s3_match.specs.Inner.Reading.{input_slots, is_input_slot, slots_of, IsReading}
use Rattle.s3_match.proofs.BeginLemmas.{files_more, first_is, slots_more}
use Rattle.s3_match.proofs.ReadingLemmas.{slot_there, slots_stay}
use Rattle.s3_match.proofs.SlotLemmas.{slot_kept}

-- ---- file by file
-- the files before a place have begun again
pub record AreBegun (program : Program) (switches place : ℕ) (files : List InputFile) : Type 0 where
  pub slots : slots_of files ≡ input_slots program
  pub each : (k : ℕ) (d : InputFile) → k < place → k < length files → IsFirst program switches (get_or (input_slots program) k 0) (get_or files k d)

pub slot_within : (program : Program) (files : List InputFile) (place : ℕ) (x : InputFile) → slots_of files ≡ input_slots program → place < length files → x ≡ get_or files place x → x.file < length program.files.items
slot_within program files place x slots within there =
    subst (λ n. n < length program.files.items) (slot_there files place x within ∙ ap (λ (input : InputFile). input.file) (sym there))
    (slot_kept program (slots_of files) place slots (omega (arith, within, length-map files (λ (input : InputFile). input.file)))).0

pub one_begun : (program : Program) (switches place : ℕ) (files : List InputFile) (x y : InputFile) → place < length files → x ≡ get_or files place x → IsFirst program switches x.file y
    → AreBegun program switches place files → AreBegun program switches (place + 1) (set files place y)
one_begun program switches place files x y within there first before = record {
  slots = slots_stay files place x y within there first.stands_for ∙ before.slots;
  each = λ k d below inside. by k d below (omega (arith, inside, length-set files place y)) (cases_lt k place);
}
  where
    slot : x.file ≡ get_or (input_slots program) place 0
    slot = ap (λ (input : InputFile). input.file) there ∙ sym (slot_there files place x within) ∙ ap (λ slots. get_or slots place 0) before.slots

    by : (k : ℕ) (d : InputFile) → k < place + 1 → k < length files → k < place ⊎ place ≤ k → IsFirst program switches (get_or (input_slots program) k 0) (get_or (set files place y) k d)
    by k d below inside (inl under) =
        let other : k ≢ place = omega (arith, under) in
        rw get_or-set_other (before.each k d under inside)
    by k d below inside (inr past) =
        let same : place ≡ k = omega (arith, below, past) in
        subst (λ n. IsFirst program switches (get_or (input_slots program) n 0) (get_or (set files place y) n d)) same
        (rw get_or-set_same (subst (λ n. IsFirst program switches n y) slot first))

-- ---- all files
standings_by : (program : Program) (switches : ℕ) (e : Environment) (files : List InputFile) (slots : List ℕ) → slots_of files ≡ slots → BeginsWith switches e
    → ((k : ℕ) (d : InputFile) → k < length files → IsFirst program switches (get_or slots k 0) (get_or files k d))
    → map (input_of program) files ≡ map (λ slot. first_standing e (file_at program slot)) slots
standings_by program switches e [] [] same begins each = refl
standings_by program switches e [] (slot ∷ slots) same begins each = cc
standings_by program switches e (x ∷ files) [] same begins each = cc
standings_by program switches e (x ∷ files) (slot ∷ slots) same begins each =
    λ i. (each zero x (omega arith)).standing e begins i
    ∷ standings_by program switches e files slots (ap (drop 1) same) begins (λ k d within. each (suc k) d (omega (arith, within))) i

one_slot_more : (program : Program) (f : FileLine → meaning.InputFile) (count : ℕ) → count < length program.files.items
    → map (λ slot. f (file_at program slot)) (filter (is_input_slot program) (range_with_len 0 count)) ≡ map f (filter is_input (take count program.files.items))
    → map (λ slot. f (file_at program slot)) (filter (is_input_slot program) (range_with_len 0 (count + 1))) ≡ map f (filter is_input (take (count + 1) program.files.items))
one_slot_more program f count within before =
    let d : FileLine = file_at program 0 in
    let g : ℕ → meaning.InputFile = λ slot. f (file_at program slot) in
    let b : Bool = is_input (get_or program.files.items count d) in
    ap (map g) (slots_more program count d b within refl)
    ∙ (map-append g (filter (is_input_slot program) (range_with_len 0 count)) (cond b (count ∷ []) [])
    ∙ ((λ i. before i ++ put b i) ∙ sym (files_more program count d b f within refl)))
  where
    put : (b : Bool) → map (λ slot. f (file_at program slot)) (cond b (count ∷ []) []) ≡ cond b (f (file_at program count) ∷ []) []
    put true = refl
    put false = refl

of_slots : (program : Program) (f : FileLine → meaning.InputFile) (count : ℕ) → count ≤ length program.files.items
    → map (λ slot. f (file_at program slot)) (filter (is_input_slot program) (range_with_len 0 count)) ≡ map f (filter is_input (take count program.files.items))
of_slots program f zero few = refl
of_slots program f (suc count) few =
    subst (λ n. map (λ slot. f (file_at program slot)) (filter (is_input_slot program) (range_with_len 0 n)) ≡ map f (filter is_input (take n program.files.items))) (add-one count)
    (one_slot_more program f count (omega (arith, few)) (of_slots program f count (omega (arith, few))))

all_begun : (program : Program) (switches place : ℕ) (files : List InputFile) → length files ≤ place → AreBegun program switches place files → AreFirst program switches (length program.files.items) files
all_begun program switches place files past begun = record {
  inputs = λ k d within. (begun.each k d (omega (arith, past, within)) within).sound;
  slots = begun.slots;
  standings = λ e begins.
      standings_by program switches e files (input_slots program) begun.slots begins (λ k d within. begun.each k d (omega (arith, past, within)) within)
      ∙ of_slots program (first_standing e) (length program.files.items) (omega arith);
}

-- ---- the reading, of which the files alone change, and the primary key
pub record IsBeginning (program : Program) (switches place : ℕ) (old new : Reading) : Type 0 where
  pub begun : AreBegun program switches place new.files.items
  pub many : length new.files.items ≡ length old.files.items
  pub alone : new ≡ record old { files = new.files }

pub is_beginning : (program : Program) (switches : ℕ) (old : Reading) → IsReading program old → IsBeginning program switches 0 old old
is_beginning program switches old sound = record {
  begun = record { slots = sound.slots; each = λ k d below within. absurd (omega (arith, below)) };
  many = refl;
  alone = refl;
}

-- one file more, in place of the one that was there
pub one_more_begun : (program : Program) (switches place : ℕ) (old before new : Reading) (x y : InputFile) → place < length before.files.items → x ≡ get_or before.files.items place x → IsFirst program switches x.file y
    → new ≡ record before { files = new.files } → new.files.items ≡ set before.files.items place y → IsBeginning program switches place old before → IsBeginning program switches (place + 1) old new
one_more_begun program switches place old before new x y within there first alone put beginning = record {
  begun = subst (AreBegun program switches (place + 1)) (sym put) (one_begun program switches place before.files.items x y within there first beginning.begun);
  many = ap length put ∙ (length-set before.files.items place y ∙ beginning.many);
  alone = alone ∙ ap (λ (reading : Reading). record reading { files = new.files }) beginning.alone;
}

pub begun_sound : (program : Program) (switches place : ℕ) (old before new : Reading) → length before.files.items ≤ place → IsReading program old → IsBeginning program switches place old before
    → new ≡ record before { primary_key = new.primary_key } → IsReading program new
begun_sound program switches place old before new past reading beginning alone =
    let whole : new ≡ record old { files = before.files; primary_key = new.primary_key } = alone ∙ ap (λ (r : Reading). record r { primary_key = new.primary_key }) beginning.alone in
    rw whole (record {
      inputs = (all_begun program switches place before.files.items past beginning.begun).inputs;
      slots = beginning.begun.slots;
      match_levels = reading.match_levels;
      control_levels = reading.control_levels;
      only_types = reading.only_types;
      type_places = reading.type_places;
      line_places = reading.line_places;
    })

pub begun_first : (program : Program) (switches place : ℕ) (files : List InputFile) (key : RecordKey) (e : Environment) → length files ≤ place → AreBegun program switches place files → key_in key ≡ None → BeginsWith switches e
    → record { files = inputs_of program files; primary_key = key_in key } ≡ first_reading (source_named program) e
begun_first program switches place files key e past begun none begins =
    first_is program switches (length program.files.items) files key e refl (all_begun program switches place files past begun) none begins
