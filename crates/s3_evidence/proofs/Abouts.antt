-- What a halt is shown with.
use Rattle.std.proofs.Common.{◌≡◌, ℕ, zero, suc, ◌+◌, ◌++◌, ◌<◌, arith, ◌∙◌, Bool, true, false, List, [], ◌∷◌, refl, sym, ap, length, map, get_or, subst}
use Rattle.std.specs.Prelude.{◌||◌, nat_eq, slice_get, Option, Some, None, IfSome}
use Rattle.std.specs.Global.{Vec}
use Rattle.std.specs.Bool.{beq}
use Rattle.std.specs.List.{All, flat_map, list_any, range_with_len}
use Rattle.std.proofs.lemmas.List.Elements.{All-append, All-nil, All-weaker}
use Rattle.std.proofs.lemmas.List.{append-nil}
use Rattle.std.proofs.lemmas.List.Concat.{flat_map-append}
use Rattle.std.proofs.lemmas.List.Folds.{list_any-append, list_any_at}
use Rattle.std.proofs.lemmas.List.FromFn.{get_or-range_with_len, length-range_with_len}
use Rattle.std.proofs.lemmas.Bool.Decides.{nat_tests}
use Rattle.s3_cards.specs.declared.levels.LevelId.{LevelId}
use Rattle.s3_cards.specs.declared.name.Name.{Name}
use Rattle.s3_cards.proofs.NameLemmas.{same_name-self}
use Rattle.s3_store.specs.Bytes.{bytes_at, sector_bytes}
use Rattle.s3_store.specs.Stretches.{sectors_in}
use Rattle.s3_store.specs.declared.stretch.Stretch.{Stretch}
use Rattle.s3_store.proofs.SectorParts.{sector_bytes-there}
use Rattle.s3_slots.specs.declared.label.FileLabel.{FileLabel}
use Rattle.s3_slots.specs.declared.slot.Standing.TheVariants.{Present}
use Rattle.s3_slots.specs.Labels.{sectors_of}
use Rattle.s3_slots.specs.Slots.{standing}
use Rattle.s3_labels.specs.Inner.Areas.{Areas}
use Rattle.s3_bureau.specs.Inner.Held.{State}
use Rattle.s3_evidence.specs.declared.evidence.CheckedIndex.{CheckedIndex}
use Rattle.s3_evidence.specs.declared.evidence.Evidence.{Evidence}
use Rattle.s3_evidence.specs.declared.evidence.Evidence.TheVariants as evidence
use Rattle.s3_evidence.specs.declared.evidence.RecordRead.{RecordRead}
use Rattle.s3_job_files.specs.declared.file.OpenFile.{OpenFile}
use Rattle.s3_job_files.specs.Files.{JobFile}
use Rattle.s3_job_files.specs.Inner.Holds.{job_file_of, slots_by}
use Rattle.s3_evidence.specs.Inner.About.{AreOfSectors, HasIndex, IsAbout, IsInUse, IsPartOf, IsReadInUse, IsRecordOf, has_in_use}
use Rattle.s3_evidence.specs.Inner.Looks.{Looks}
use Rattle.s3_evidence.proofs.Looks.{looks_back}

same : (b : Bool) → beq b b ≡ true
same true = refl
same false = refl

own : (file : OpenFile) → has_in_use file.is_master file.label.name (job_file_of file) ≡ true
own file = rw (same file.is_master, same_name-self file.label.name) refl

mapped : (is_master : Bool) (name : Name) (files : List OpenFile) → list_any (has_in_use is_master name) (map job_file_of files) ≡ list_any (λ (file : OpenFile). has_in_use is_master name (job_file_of file)) files
mapped is_master name [] = refl
mapped is_master name (file ∷ files) = ap (λ b. has_in_use is_master name (job_file_of file) || b) (mapped is_master name files)

-- a file of those that the job has in use
pub is_in_use : (files : List OpenFile) (place : ℕ) (file : OpenFile) (in_use : List JobFile) → place < length files → file ≡ get_or files place file → map job_file_of files ≡ in_use
    → list_any (has_in_use file.is_master file.label.name) in_use ≡ true
is_in_use files place file in_use within is all =
    ap (list_any (has_in_use file.is_master file.label.name)) (sym all)
    ∙ (mapped file.is_master file.label.name files
    ∙ list_any_at (λ (other : OpenFile). has_in_use file.is_master file.label.name (job_file_of other)) files place file within
    (ap (λ (other : OpenFile). has_in_use file.is_master file.label.name (job_file_of other)) (sym is) ∙ own file))

-- ---- lists
-- one more
pub all_more : {X : Type 0} (P : X → Type 0) (xs : List X) (x : X) → All P xs → P x → All P (xs ++ x ∷ [])
all_more {X} P xs x all one = All-append P xs (x ∷ []) all alone
  where
    alone : All P (x ∷ [])
    alone zero d low = one
    alone (suc k) d low = absurd (omega (arith, low))

-- ---- sectors
counted : (a n k : ℕ) → k < n → list_any (nat_eq (a + k)) (range_with_len a n) ≡ true
counted a n k low =
    let at : get_or (range_with_len a n) k 0 ≡ a + k = get_or-range_with_len a n k 0 low in
    let within : k < length (range_with_len a n) = omega (arith, length-range_with_len a n, low) in
    list_any_at (nat_eq (a + k)) (range_with_len a n) k 0 within (ap (nat_eq (a + k)) at ∙ grind (arith, nat_tests))

or_true : (b : Bool) → (b || true) ≡ true
or_true true = refl
or_true false = refl

-- a sector of a run is one of all these runs
pub in_run : (runs : List Stretch) (place : ℕ) (d : Stretch) (left n : ℕ) → place < length runs → left < (get_or runs place d).sectors → n ≡ (get_or runs place d).start + left → list_any (nat_eq n) (sectors_in runs) ≡ true
in_run [] place d left n within low at = absurd (omega (arith, within))
in_run (run ∷ runs) zero d left n within low at =
    let here : list_any (nat_eq n) (range_with_len run.start run.sectors) ≡ true = ap (λ m. list_any (nat_eq m) (range_with_len run.start run.sectors)) at ∙ counted run.start run.sectors left low in
    list_any-append (nat_eq n) (range_with_len run.start run.sectors) (sectors_in runs) ∙ ap (λ b. b || list_any (nat_eq n) (sectors_in runs)) here
in_run (run ∷ runs) (suc place) d left n within low at =
    list_any-append (nat_eq n) (range_with_len run.start run.sectors) (sectors_in runs)
    ∙ (ap (λ b. list_any (nat_eq n) (range_with_len run.start run.sectors) || b) (in_run runs place d left n (omega (arith, within)) low at)
    ∙ or_true (list_any (nat_eq n) (range_with_len run.start run.sectors)))

-- no sector so far
pub none_read : (sectors : List ℕ) (contents : List (List ℕ)) → AreOfSectors sectors contents []
unfolding bytes_at
none_read sectors contents = record { numbers = []; own = All-nil (λ n. list_any (nat_eq n) sectors ≡ true); whole = refl }

-- one sector more
pub one_read : (sectors : List ℕ) (contents : List (List ℕ)) (n : ℕ) (bytes sector new : List ℕ) → list_any (nat_eq n) sectors ≡ true → slice_get contents n ≡ Some sector → length sector ≡ 256 → new ≡ bytes ++ sector
    → AreOfSectors sectors contents bytes → AreOfSectors sectors contents new
unfolding bytes_at
one_read sectors contents n bytes sector new own there long added before = record {
  numbers = before.numbers ++ n ∷ [];
  own = all_more (λ m. list_any (nat_eq m) sectors ≡ true) before.numbers n before.own own;
  whole =
      added
      ∙ (ap (λ (bs : List ℕ). bs ++ sector) before.whole
      ∙ (ap (λ (bs : List ℕ). flat_map (sector_bytes contents) before.numbers ++ bs) (sym (append-nil (sector_bytes contents n) ∙ sector_bytes-there contents n sector there long))
      ∙ sym (flat_map-append (sector_bytes contents) before.numbers (n ∷ []))));
}

-- ---- what was read
-- a record that was read after the place of its entry
pub record_read : (label : FileLabel) (runs : List Stretch) (contents between : List (List ℕ)) (read : Option (Vec ℕ)) → runs ≡ label.extents → between ≡ contents
    → IfSome read (λ bytes. IsPartOf (sectors_in runs) between bytes.items) → IsRecordOf label contents read
unfolding sectors_of
record_read label runs contents between None of same from = tt
record_read label runs contents between (Some bytes) of same from =
    subst (λ (all : List (List ℕ)). IsPartOf (sectors_in label.extents) all bytes.items) same (subst (λ (rs : List Stretch). IsPartOf (sectors_in rs) between bytes.items) of from)

-- a record that was read after others of a file that the job has in use
pub read_before : (level : LevelId) (old between : State) (label : FileLabel) (found : Option (Vec ℕ)) (read : RecordRead) → Looks None old between → IsInUse level old label → found ≡ Some read.bytes
    → IsRecordOf label between.beside.state.contents found → IsReadInUse level old read
read_before level old between label found read looks in_use is from =
    let given : IsRecordOf label between.beside.state.contents (Some read.bytes) = subst (IsRecordOf label between.beside.state.contents) is from in
    (label, (in_use, subst (λ (contents : List (List ℕ)). IsRecordOf label contents (Some read.bytes)) looks.keeps.contents given))

in_use_after : (level : LevelId) (old new : State) (label : FileLabel) → Looks None old new → IsInUse level old label → IsInUse level new label
in_use_after level old new label looks use' = record {
  is_master = use'.is_master;
  name = use'.name;
  stands = subst (λ (areas : Areas). standing use'.name (slots_by use'.is_master level areas) ≡ Present label) (sym looks.areas) use'.stands;
  in_use = λ w held. use'.in_use w (looks_back None old new looks level w held);
}

record_after : (old new : State) (label : FileLabel) (read : Option (Vec ℕ)) → Looks None old new → IsRecordOf label old.beside.state.contents read → IsRecordOf label new.beside.state.contents read
record_after old new label read looks from = subst (λ (contents : List (List ℕ)). IsRecordOf label contents read) (sym looks.keeps.contents) from

read_after : (level : LevelId) (old new : State) → Looks None old new → (read : RecordRead) → IsReadInUse level old read → IsReadInUse level new read
read_after level old new looks read of =
    (of.0, (in_use_after level old new of.0 looks of.1.0, record_after old new of.0 (Some read.bytes) looks of.1.1))

-- what was found before a look that came to its end is so after it
pub about_after : (level : LevelId) (old new : State) (found : Evidence) → Looks None old new → IsAbout level old found → IsAbout level new found
about_after level old new evidence.Nothing looks about = tt
about_after level old new (evidence.Records last before) looks about =
    (about.0, (in_use_after level old new about.0 looks about.1.0, (record_after old new about.0 last looks about.1.1.0, record_after old new about.0 before looks about.1.1.1)))
about_after level old new (evidence.Totals records) looks about = All-weaker (IsReadInUse level old) (IsReadInUse level new) (read_after level old new looks) records.items about
about_after level old new (evidence.Slots slots) looks about = about
about_after level old new (evidence.Indexes indexes) looks about =
    subst (λ (areas : Areas). All (λ (index : CheckedIndex). (label : FileLabel) × HasIndex level areas index.label label) indexes.items) (sym looks.areas) about
