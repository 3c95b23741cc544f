-- The fields of the records at heads lie within them, as files are read and heads are taken.
use Rattle.std.proofs.Common.{◌≡◌, ℕ, ◌<◌, ◌≤◌, length, get_or, map, List, [], ◌∷◌, Bool, true, false, refl, sym, ◌∙◌, ap, subst, zero, suc, arith}
use Rattle.std.specs.Prelude.{Option, Some, None, is_some, unwrap_or, slice_get, nat_le, if◌then◌else◌}
use Rattle.std.specs.List.{All, list_all}
use Rattle.std.proofs.lemmas.Bool.{and_parts, true≢false}
use Rattle.std.proofs.lemmas.Bool.Decides.{nat_tests}
use Rattle.std.proofs.lemmas.List.{get_or-map, length-map}
use Rattle.std.proofs.lemmas.List.Elements.{All-set}
use Rattle.s3_cards.specs.declared.name.Name.{Name}
use Rattle.s3_cards.specs.Names.{same_name}
use Rattle.s3_lines.specs.declared.sheet.FieldLine.{FieldLine}
use Rattle.s3_lines.specs.declared.sheet.FileLine.{FileLine}
use Rattle.s3_meaning.specs.RecordTypes.{RecordType}
use Rattle.s3_meaning.specs.Selection as meaning
use Rattle.s3_meaning.specs.Selection.{type_of}
use Rattle.s3_program.specs.declared.program.Program.{Program}
use Rattle.s3_program.specs.declared.starts.TypeStart.{TypeStart}
use Rattle.s3_program.specs.Inner.Stands.{source_named}
use Rattle.s3_cycle.proofs.WithinLemmas.{fields_within, file_found}
use Rattle.s3_match.specs.declared.heads.InputFile.{InputFile}
use Rattle.s3_match.specs.declared.heads.Standing.{Standing}
use Rattle.s3_match.specs.declared.heads.Standing.TheVariants as at
use Rattle.s3_match.specs.declared.reading.Reading.{Reading}
use Rattle.s3_match.specs.Inner.Heads.{no_file, file_at, input_of, standing_as, put, IsInput}
use Rattle.s3_match.specs.Inner.Reading.{reading_in, input_at, changed_at, IsReading}
use Rattle.s3_match.specs.Inner.Selecting.{inputs_of}
use Rattle.s3_match.specs.Inner.Types.{kind_at}
use Rattle.s3_match.proofs.FieldLemmas.{kind_fields}
use Rattle.s3_match.proofs.ReadingLemmas.{input_there, input_slot}
use Rattle.s3_cycle.specs.declared.stepper.Stepper.{Stepper}
use Rattle.s3_meaning.specs.Cycle.{counted_read}
use Rattle.s3_cycle.specs.Inner.Going.{IsHeadWithin, IsRunning}

abbrev pub EndWithin : List ℕ → List (FieldLine Name) → Type 0
EndWithin bytes fields = All (λ (field : FieldLine Name). field.to ≤ length bytes) fields

-- the fields of a head lie within its record, in the terms of the semantics
abbrev pub IsWithin : meaning.InputFile → Type 0
IsWithin input = (head : meaning.Head) → input.standing ≡ meaning.Stands head → EndWithin head.bytes head.kind.fields

-- ---- heads in the run and in the semantics
head_on : meaning.Standing → Option meaning.Head
head_on (meaning.Stands head) = Some head
head_on meaning.Unread = None
head_on meaning.Ended = None

same_head : (a b : meaning.Head) → meaning.Stands a ≡ meaning.Stands b → a ≡ b
unfolding head_on
same_head a b e = ap (λ (s : meaning.Standing). unwrap_or (head_on s) b) e

no_head : (s : meaning.Standing) (head : meaning.Head) → is_some (head_on s) ≡ false → s ≡ meaning.Stands head → ⊥
unfolding head_on
no_head s head none e = true≢false (sym (ap (λ (s : meaning.Standing). is_some (head_on s)) e) ∙ none)

shown : (program : Program) (x : InputFile) → IsInput program x → IsHeadWithin program x → IsWithin (input_of program x)
unfolding head_on
shown program x sound within head e = by x.standing refl e
  where
    by : (standing : Standing) → x.standing ≡ standing → standing_as program x.reads x.bytes standing ≡ meaning.Stands head → EndWithin head.bytes head.kind.fields
    by at.Unread same e = absurd (no_head meaning.Unread head refl e)
    by at.Ended same e = absurd (no_head meaning.Ended head refl e)
    by (at.Stands start) same e =
        subst (λ (h : meaning.Head). EndWithin h.bytes h.kind.fields) (same_head (record { number = x.reads; bytes = x.bytes; kind = kind_at program start }) head e)
        (subst (EndWithin x.bytes) (sym (kind_fields program start (sound.head start same).starts)) (within.within start same))

kept_within : (program : Program) (x : InputFile) → IsInput program x → IsWithin (input_of program x) → IsHeadWithin program x
kept_within program x sound within = record {
  within = λ start e.
      subst (EndWithin x.bytes) (kind_fields program start (sound.head start e).starts)
      (within (record { number = x.reads; bytes = x.bytes; kind = kind_at program start }) (ap (standing_as program x.reads x.bytes) e));
}

pub heads_meant : (program : Program) (files : List InputFile) → All (IsInput program) files → All (IsHeadWithin program) files
    → (k : ℕ) (d : meaning.InputFile) → k < length (inputs_of program files) → IsWithin (get_or (inputs_of program files) k d)
heads_meant program [] inputs heads k d within = absurd (omega (arith, within))
heads_meant program (x ∷ xs) inputs heads zero d within = shown program x (inputs zero x (omega arith)) (heads zero x (omega arith))
heads_meant program (x ∷ xs) inputs heads (suc k) d within =
    heads_meant program xs (λ j e h. inputs (suc j) e (omega (arith, h))) (λ j e h. heads (suc j) e (omega (arith, h))) k d (omega (arith, within))

pub heads_kept : (program : Program) (files : List InputFile) → All (IsInput program) files → All IsWithin (inputs_of program files) → All (IsHeadWithin program) files
heads_kept program [] inputs heads = λ k d within. absurd (omega (arith, within))
heads_kept program (x ∷ xs) inputs heads = all
  where
    all : (k : ℕ) (d : InputFile) → k < length (x ∷ xs) → IsHeadWithin program (get_or (x ∷ xs) k d)
    all k d within =
        kept_within program (get_or (x ∷ xs) k d) (inputs k d within)
        (subst IsWithin (get_or-map (input_of program) (x ∷ xs) k d (input_of program d) within) (heads k (input_of program d) (as_long k within)))
      where
        as_long : (k : ℕ) → k < length (x ∷ xs) → k < length (inputs_of program (x ∷ xs))
        as_long k h = omega (arith, h, length-map (x ∷ xs) (input_of program))

-- ---- changes
pub heads_still : (program : Program) (old new : Reading) (place : ℕ) (change : meaning.InputFile → meaning.InputFile) → IsReading program old → IsReading program new → All (IsHeadWithin program) old.files.items
    → reading_in program new ≡ changed_at place change (reading_in program old) → IsWithin (change (input_at (reading_in program old).files place)) → All (IsHeadWithin program) new.files.items
heads_still program old new place change before sound heads same here =
    heads_kept program new.files.items sound.inputs
    (subst (All IsWithin) (sym (ap (λ (r : meaning.Reading). r.files) same))
    (All-set IsWithin (inputs_of program old.files.items) place _ here (heads_meant program old.files.items before.inputs heads)))

-- a file without a head
pub none_within : (input : meaning.InputFile) → is_some (meaning.head_of input) ≡ false → IsWithin input
unfolding head_on
none_within input none head e = absurd (true≢false (sym (ap (λ (s : meaning.Standing). is_some (meaning.head_of (record input { standing = s }))) e) ∙ none))

vacated_one : (b : Bool) (input : meaning.InputFile) → IsWithin input → IsWithin (if b then record input { standing = meaning.Unread } else input)
vacated_one true input within = none_within (record input { standing = meaning.Unread }) refl
vacated_one false input within = within

vacated_each : (name : Name) (inputs : List meaning.InputFile) → All IsWithin inputs → (k : ℕ) (d : meaning.InputFile) → k < length (map (meaning.vacated name) inputs) → IsWithin (get_or (map (meaning.vacated name) inputs) k d)
vacated_each name [] heads k d within = absurd (omega (arith, within))
vacated_each name (input ∷ inputs) heads zero d within = vacated_one (same_name input.file.name name) input (heads zero input (omega arith))
vacated_each name (input ∷ inputs) heads (suc k) d within = vacated_each name inputs (λ j e h. heads (suc j) e (omega (arith, h))) k d (omega (arith, within))

pub vacated_within : (name : Name) (inputs : List meaning.InputFile) → All IsWithin inputs → All IsWithin (map (meaning.vacated name) inputs)
vacated_within name inputs heads = vacated_each name inputs heads

-- ---- a record becomes a head
pub there_is : (files : List InputFile) (k : ℕ) → k < length files → (x : InputFile) × (x ≡ get_or files k x)
there_is [] k within = absurd (omega (arith, within))
there_is (x ∷ xs) zero within = (x, refl)
there_is (x ∷ xs) (suc k) within = there_is xs k (omega (arith, within))

pub at_most : (size : ℕ) (bytes : List ℕ) (fields : List (FieldLine Name)) → list_all (λ field. nat_le field.to size) fields ≡ true → size ≤ length bytes
    → (k : ℕ) (d : FieldLine Name) → k < length fields → (get_or fields k d).to ≤ length bytes
at_most size bytes [] all long k d within = absurd (omega (arith, within))
at_most size bytes (field ∷ fields) all long zero d within = below field.to size (length bytes) (and_parts (nat_le field.to size) (list_all (λ field. nat_le field.to size) fields) all).0 long
  where
    below : (a b c : ℕ) → nat_le a b ≡ true → b ≤ c → a ≤ c
    below a b c h e = grind (arith, nat_tests, h, e)
at_most size bytes (field ∷ fields) all long (suc k) d within =
    at_most size bytes fields (and_parts (nat_le field.to size) (list_all (λ field. nat_le field.to size) fields) all).1 long k d (omega (arith, within))

pub file_there : (files : List FileLine) (k : ℕ) → k < length files → slice_get files k ≡ Some (unwrap_or (slice_get files k) no_file)
file_there [] k h = absurd (omega (arith, h))
file_there (f ∷ fs) zero h = refl
file_there (f ∷ fs) (suc k) h = file_there fs k (omega (arith, h))

pub typed_within : (program : Program) (reading : Reading) (place : ℕ) (bytes : List ℕ) (kind : RecordType) → IsReading program reading → place < length reading.files.items
    → type_of (source_named program) (input_at (reading_in program reading).files place).file.name bytes ≡ Some kind → (input_at (reading_in program reading).files place).file.record_length ≤ length bytes → EndWithin bytes kind.fields
typed_within program reading place bytes kind sound within typed long = by (there_is reading.files.items place within)
  where
    by : (x : InputFile) × (x ≡ get_or reading.files.items place x) → EndWithin bytes kind.fields
    by (x, there) =
        let same : (input_at (reading_in program reading).files place).file ≡ file_at program x.file = ap (λ (input : meaning.InputFile). input.file) (input_there program reading.files.items place x within there) in
        let name_is : type_of (source_named program) (file_at program x.file).name bytes ≡ Some kind = ap (λ (file : FileLine). type_of (source_named program) file.name bytes) (sym same) ∙ typed in
        at_most (file_at program x.file).record_length bytes kind.fields
        (fields_within program (file_at program x.file).name bytes kind (file_at program x.file) name_is (file_found program x.file (file_at program x.file) (file_there program.files.items x.file (input_slot program reading place x sound within there))))
        (subst (λ (file : FileLine). file.record_length ≤ length bytes) same long)

pub put_within : (program : Program) (start : TypeStart) (bytes : List ℕ) (input : meaning.InputFile) → EndWithin bytes (kind_at program start).fields → IsWithin (put program start bytes input)
put_within program start bytes input fields head e =
    subst (λ (h : meaning.Head). EndWithin h.bytes h.kind.fields) (same_head (record { number = input.reads; bytes = bytes; kind = kind_at program start }) head e) fields

-- ---- a run with another reading
pub reading_running : (c : Stepper) (reading : Reading) → IsRunning c → IsReading c.program reading → All (IsHeadWithin c.program) reading.files.items → IsRunning (record c { progress = record c.progress { reading = reading } })
reading_running c reading running sound heads = record { overflow = running.overflow; state = running.state; reading = sound; heads = heads; calculations = running.calculations; totals_guard = running.totals_guard; inputs = running.inputs; outputs = running.outputs }

-- one more record is read
pub counted_heads : (program : Program) (old new : Reading) (place : ℕ) → place < length old.files.items → IsReading program old → IsReading program new → All (IsHeadWithin program) old.files.items
    → reading_in program new ≡ changed_at place counted_read (reading_in program old) → All (IsHeadWithin program) new.files.items
counted_heads program old new place within before sound heads same =
    heads_still program old new place counted_read before sound heads same (heads_meant program old.files.items before.inputs heads place _ (omega (arith, within, length-map old.files.items (input_of program))))

-- a record becomes the head, or doesn't
pub put_heads : (program : Program) (old new : Reading) (place : ℕ) (start : TypeStart) (bytes : List ℕ) → place < length old.files.items → IsReading program old → IsReading program new → All (IsHeadWithin program) old.files.items
    → type_of (source_named program) (input_at (reading_in program old).files place).file.name bytes ≡ Some (kind_at program start) → (input_at (reading_in program old).files place).file.record_length ≤ length bytes
    → reading_in program new ≡ changed_at place (put program start bytes) (reading_in program old) → All (IsHeadWithin program) new.files.items
put_heads program old new place start bytes within before sound heads typed long same =
    heads_still program old new place (put program start bytes) before sound heads same
    (put_within program start bytes (input_at (reading_in program old).files place) (typed_within program old place bytes (kind_at program start) before within typed long))

pub same_heads : (program : Program) (old new : Reading) → IsReading program old → IsReading program new → All (IsHeadWithin program) old.files.items → reading_in program new ≡ reading_in program old → All (IsHeadWithin program) new.files.items
same_heads program old new before sound heads same =
    heads_kept program new.files.items sound.inputs (subst (All IsWithin) (sym (ap (λ (r : meaning.Reading). r.files) same)) (heads_meant program old.files.items before.inputs heads))
