-- The reading as a job begins, slot by slot.
use Rattle.std.proofs.Common.{◌≡◌, ℕ, ◌+◌, ◌<◌, ◌++◌, length, take, get_or, map, List, [], ◌∷◌, Bool, true, false, cond, refl, sym, ◌∙◌, ap, arith}
use Rattle.std.specs.Prelude.{None, filter}
use Rattle.std.specs.List.{range_with_len}
use Rattle.std.proofs.lemmas.List.{map-append, append-nil, take_all}
use Rattle.std.proofs.lemmas.List.Elements.{All-push, filter_more}
use Rattle.s3_lines.specs.declared.sheet.FileLine.{FileLine}
use Rattle.s3_meaning.specs.Source.{is_input}
use Rattle.s3_meaning.specs.Environment.{Environment}
use Rattle.s3_meaning.specs.Selection as meaning
use Rattle.s3_meaning.specs.Cycle.{first_standing, first_reading}
use Rattle.s3_program.specs.declared.program.Program.{Program}
use Rattle.s3_program.specs.Inner.Stands.{source_named}
use Rattle.s3_program.specs.Inner.Valid.{named}
use Rattle.s3_match.specs.declared.heads.InputFile.{InputFile}
use Rattle.s3_match.specs.declared.keys.RecordKey.{RecordKey}
use Rattle.s3_match.specs.Inner.Keys.{key_in}
use Rattle.s3_match.specs.Inner.Heads.{file_at, input_of, IsInput}
use Rattle.s3_match.specs.Inner.Selecting.{reading_of}
use Rattle.s3_match.specs.Inner.BeginningEnvironment.{BeginsWith}
use Rattle.s3_match.specs.Inner.Beginning.{IsFirst, AreFirst}
use Rattle.s3_match.specs.Inner.Reading.{is_input_slot}
use Rattle.s3_match.proofs.SelectLemmas.{file_here}
use Rattle.s3_match.proofs.SlotLemmas.{one_more_kept}

-- the slots after one more, and the files
pub slots_more : (program : Program) (slot : ℕ) (d : FileLine) (b : Bool) → slot < length program.files.items → is_input (get_or program.files.items slot d) ≡ b
    → filter (is_input_slot program) (range_with_len 0 (slot + 1)) ≡ filter (is_input_slot program) (range_with_len 0 slot) ++ cond b (slot ∷ []) []
slots_more program slot d b within is =
    one_more_kept (is_input_slot program) 0 slot slot (omega arith)
    ∙ ap (λ (b : Bool). filter (is_input_slot program) (range_with_len 0 slot) ++ cond b (slot ∷ []) []) (ap is_input (file_here program slot d within) ∙ is)

pub files_more : (program : Program) (slot : ℕ) (d : FileLine) (b : Bool) (f : FileLine → meaning.InputFile) → slot < length program.files.items → is_input (get_or program.files.items slot d) ≡ b
    → map f (filter is_input (take (slot + 1) program.files.items)) ≡ map f (filter is_input (take slot program.files.items)) ++ cond b (f (file_at program slot) ∷ []) []
files_more program slot d b f within is =
    ap (map f) (filter_more is_input program.files.items slot d within)
    ∙ map-append f (filter is_input (take slot program.files.items)) (cond (is_input (get_or program.files.items slot d)) (get_or program.files.items slot d ∷ []) [])
    ∙ ap (λ (b : Bool). map f (filter is_input (take slot program.files.items)) ++ map f (cond b (get_or program.files.items slot d ∷ []) [])) is
    ∙ by b
  where
    by : (b : Bool) → map f (filter is_input (take slot program.files.items)) ++ map f (cond b (get_or program.files.items slot d ∷ []) [])
        ≡ map f (filter is_input (take slot program.files.items)) ++ cond b (f (file_at program slot) ∷ []) []
    by true = ap (λ (file : FileLine). map f (filter is_input (take slot program.files.items)) ++ f file ∷ []) (sym (file_here program slot d within))
    by false = refl

pub one_first : (program : Program) (switches slot : ℕ) (files : List InputFile) (x : InputFile) (d : FileLine) → slot < length program.files.items → is_input (get_or program.files.items slot d) ≡ true
    → IsFirst program switches slot x → AreFirst program switches slot files → AreFirst program switches (slot + 1) (files ++ x ∷ [])
one_first program switches slot files x d within is first before = record {
  inputs = All-push (IsInput program) files x before.inputs first.sound;
  slots =
      map-append (λ (input : InputFile). input.file) files (x ∷ [])
      ∙ (λ i. before.slots i ++ first.stands_for i ∷ [])
      ∙ sym (slots_more program slot d true within is);
  standings = λ e begins.
      map-append (input_of program) files (x ∷ [])
      ∙ (λ i. before.standings e begins i ++ first.standing e begins i ∷ [])
      ∙ sym (files_more program slot d true (first_standing e) within is);
}

pub none_more_first : (program : Program) (switches slot : ℕ) (files : List InputFile) (d : FileLine) → slot < length program.files.items → is_input (get_or program.files.items slot d) ≡ false
    → AreFirst program switches slot files → AreFirst program switches (slot + 1) files
none_more_first program switches slot files d within is before = record {
  inputs = before.inputs;
  slots = before.slots ∙ sym (append-nil (filter (is_input_slot program) (range_with_len 0 slot))) ∙ sym (slots_more program slot d false within is);
  standings = λ e begins.
      before.standings e begins ∙ sym (append-nil (map (first_standing e) (filter is_input (take slot program.files.items)))) ∙ sym (files_more program slot d false (first_standing e) within is);
}

-- ---- all slots
pub first_is : (program : Program) (switches count : ℕ) (files : List InputFile) (key : RecordKey) (e : Environment) → count ≡ length program.files.items → AreFirst program switches count files → key_in key ≡ None
    → BeginsWith switches e → reading_of program files key ≡ first_reading (source_named program) e
unfolding named
first_is program switches count files key e all first none begins =
    λ i. record {
      files = (first.standings e begins ∙ ap (λ (files : List FileLine). map (first_standing e) (filter is_input files)) (take_all count program.files.items (omega (arith, all)))) i;
      primary_key = none i;
    }
