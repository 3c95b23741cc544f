-- Requests that only read.
use Rattle.std.proofs.Common.{◌≡◌, ℕ, inl, inr, Bool, List, map, subst, ap, sym, ◌∙◌}
use Rattle.std.specs.Prelude.{slice_get, slice_set, Some, Result, Ok, Err, IfOk, OnOk}
use Rattle.s3_cards.specs.declared.levels.LevelId.{LevelId}
use Rattle.s3_store.specs.declared.sector_fault.SectorFault.{SectorFault}
use Rattle.s3_slots.specs.Slots.{standing}
use Rattle.s3_slots.specs.declared.label.FileLabel.{FileLabel}
use Rattle.s3_slots.specs.declared.slot.Standing.TheVariants.{Present}
use Rattle.s3_labels.specs.Inner.Areas.{Areas}
use Rattle.s3_meaning.specs.Requests.{Answer, Sought}
use Rattle.s3_job_files.specs.declared.file.OpenFile.{OpenFile}
use Rattle.s3_job_files.specs.declared.records.OpenRecords.{OpenRecords}
use Rattle.s3_job_files.specs.Files.{Files, FilesInUse, JobFile, area_by, with_job_file}
use Rattle.s3_job_files.specs.Records.{place_read, place_sought}
use Rattle.s3_job_files.specs.Requests.{served_on, answer_at, record_read, record_chained, with_read, with_chained}
use Rattle.s3_job_files.specs.Inner.Calls.{found_answer}
use Rattle.s3_job_files.specs.Inner.Holds.{Seen, seen, slots_by, Stands, IsReady, job_file_of, HoldsRecords, HoldsFiles, Holds, Meets, Serves, records_of, AreOf, count_of}
use Rattle.s3_job_files.proofs.Lists.{get_set, map_set}
use Rattle.s3_job_files.proofs.Held.{IsLike, at_work, is_open_set, open_set}

-- it has the same records under the same label
pub record IsRead (old new : OpenFile) : Type 0 where
  pub like : IsLike old new
  pub records : new.records ≡ old.records

pub of_read : (old new : OpenFile) → new ≡ record old { read = new.read } → IsRead old new
of_read old new alone = record { like = record { label = ap (λ (f : OpenFile). f.label) alone; master = ap (λ (f : OpenFile). f.is_master) alone }; records = ap (λ (f : OpenFile). f.records) alone }

pub of_chained : (old new : OpenFile) → new ≡ record old { chained = new.chained } → IsRead old new
of_chained old new alone = record { like = record { label = ap (λ (f : OpenFile). f.label) alone; master = ap (λ (f : OpenFile). f.is_master) alone }; records = ap (λ (f : OpenFile). f.records) alone }

stands_read : (level : LevelId) (s : Seen) (old new : OpenFile) → IsRead old new → Stands level s old → Stands level s new
stands_read level s old new read stands = record {
  sound = subst (λ (b : Bool). standing new.label.name (slots_by b level s.areas) ≡ Present new.label) (sym read.like.master)
      (subst (λ (l : FileLabel). standing l.name (slots_by old.is_master level s.areas) ≡ Present l) (sym read.like.label) stands.sound);
  records = subst (λ (l : FileLabel). AreOf l s.contents new.records) (sym read.like.label) (subst (AreOf old.label s.contents) (sym read.records) stands.records);
  master = λ is. ap count_of read.records ∙ stands.master (sym read.like.master ∙ is) ∙ ap (λ (l : FileLabel). l.count) (sym read.like.label);
}

pub read_ready : (level : LevelId) (items : List OpenFile) (areas : Areas) (old new : List (List ℕ)) (p : ℕ) (file changed : OpenFile) → IsReady level items (seen areas old) → slice_get items p ≡ Some file
    → IsRead file changed → new ≡ old → IsReady level (slice_set items p changed) (seen areas new)
read_ready level items areas old new p file changed ready there read same =
    subst (λ c. IsReady level (slice_set items p changed) (seen areas c)) (sym same) (record {
      pack = ready.pack;
      files = open_set level items (seen areas old) (seen areas old) p file changed ready.files there read.like.label
          (stands_read level (seen areas old) file changed read (ready.files.stands p file there)) (λ i one other h. ready.files.stands i one h);
    })

holds_read : (contents : List (List ℕ)) (old new : OpenFile) (files : Files) → IsRead old new → HoldsRecords contents old ((area_by old.is_master files).kept old.label.name)
    → HoldsRecords contents new ((area_by new.is_master files).kept new.label.name)
holds_read contents old new files read held =
    subst (λ (b : Bool). HoldsRecords contents new ((area_by b files).kept new.label.name)) (sym read.like.master)
    (subst (λ (l : FileLabel). HoldsRecords contents new ((area_by old.is_master files).kept l.name)) (sym read.like.label)
    (record { records = held.records ∙ ap (λ (r : OpenRecords). records_of r contents) (sym read.records); good = held.good }))

pub read_files : (level : LevelId) (items : List OpenFile) (s : Seen) (p : ℕ) (file changed : OpenFile) (files : Files) → slice_get items p ≡ Some file → IsRead file changed
    → HoldsFiles level items s files → HoldsFiles level (slice_set items p changed) s files
read_files level items s p file changed files there read held = record {
  format = held.format;
  own = held.own;
  masters = held.masters;
  own_files = λ label is closed. held.own_files label is (sym (is_open_set items p file changed label.name there read.like) ∙ closed);
  master_files = held.master_files;
  records = λ i one h. elim (get_set items p i changed one h) [
    | inl here ↦ subst (λ (f : OpenFile). HoldsRecords s.contents f ((area_by f.is_master files).kept f.label.name)) here.1
        (holds_read s.contents file changed files read (held.records p file there))
    | inr before ↦ held.records i one before.1
  ];
}

-- the job's file is set
set_held : (level : LevelId) (items : List OpenFile) (s : Seen) (p : ℕ) (file changed : OpenFile) (meant : JobFile) (in_use : FilesInUse) → slice_get items p ≡ Some file → IsRead file changed
    → job_file_of changed ≡ meant → Holds level items s in_use → Holds level (slice_set items p changed) s (with_job_file p meant in_use)
set_held level items s p file changed meant in_use there read is held = record {
  files = read_files level items s p file changed in_use.files there read held.files;
  job_files = ap (λ files. slice_set files p meant) held.job_files ∙ ap (slice_set (map job_file_of items) p) (sym is) ∙ sym (map_set job_file_of items p changed);
}

-- ---- the next record is read
read_meets : (level : LevelId) (items : List OpenFile) (areas : Areas) (old new : List (List ℕ)) (p : ℕ) (file changed : OpenFile) (answer : Answer)
    → IsReady level items (seen areas old) → slice_get items p ≡ Some file → IsRead file changed → new ≡ old
    → answer ≡ answer_at (records_of file.records old) (place_read file.label (records_of file.records old) file.read)
    → job_file_of changed ≡ with_read (place_read file.label (records_of file.records old) file.read) (job_file_of file)
    → Serves record_read p answer (Holds level items (seen areas old)) (Holds level (slice_set items p changed) (seen areas new))
read_meets level items areas old new p file changed answer ready there read same answers is in_use held =
    subst (λ at. Meets answer (Holds level (slice_set items p changed) (seen areas new)) (served_on record_read at in_use))
    (sym (at_work level items (seen areas old) in_use p file ready held there)) (
      answers,
      subst (λ c. Holds level (slice_set items p changed) (seen areas c) (with_job_file p (with_read (place_read file.label (records_of file.records old) file.read) (job_file_of file)) in_use)) (sym same)
          (set_held level items (seen areas old) p file changed _ in_use there read is held),
    )

pub read_serves : (level : LevelId) (items : List OpenFile) (areas : Areas) (old new : List (List ℕ)) (p : ℕ) (file changed : OpenFile) (bytes : List ℕ) (result : Result Bool SectorFault)
    → IsReady level items (seen areas old) → slice_get items p ≡ Some file → changed ≡ record file { read = changed.read } → new ≡ old
    → IfOk result (λ found. found_answer found bytes ≡ answer_at (records_of file.records old) (place_read file.label (records_of file.records old) file.read))
    → OnOk result (job_file_of changed ≡ with_read (place_read file.label (records_of file.records old) file.read) (job_file_of file))
    → IfOk result (λ found. Serves record_read p (found_answer found bytes) (Holds level items (seen areas old)) (Holds level (slice_set items p changed) (seen areas new)))
read_serves level items areas old new p file changed bytes (Ok found) ready there alone same answers is =
    read_meets level items areas old new p file changed (found_answer found bytes) ready there (of_read file changed alone) same answers is
read_serves level items areas old new p file changed bytes (Err fault) ready there alone same answers is = tt

-- ---- a record is chained
chain_meets : (level : LevelId) (items : List OpenFile) (areas : Areas) (old new : List (List ℕ)) (p : ℕ) (file changed : OpenFile) (sought : Sought) (answer : Answer)
    → IsReady level items (seen areas old) → slice_get items p ≡ Some file → IsRead file changed → new ≡ old
    → answer ≡ answer_at (records_of file.records old) (place_sought file.label (records_of file.records old) sought)
    → job_file_of changed ≡ with_chained (place_sought file.label (records_of file.records old) sought) (job_file_of file)
    → Serves (record_chained sought) p answer (Holds level items (seen areas old)) (Holds level (slice_set items p changed) (seen areas new))
chain_meets level items areas old new p file changed sought answer ready there read same answers is in_use held =
    subst (λ at. Meets answer (Holds level (slice_set items p changed) (seen areas new)) (served_on (record_chained sought) at in_use))
    (sym (at_work level items (seen areas old) in_use p file ready held there)) (
      answers,
      subst (λ c. Holds level (slice_set items p changed) (seen areas c) (with_job_file p (with_chained (place_sought file.label (records_of file.records old) sought) (job_file_of file)) in_use)) (sym same)
          (set_held level items (seen areas old) p file changed _ in_use there read is held),
    )

pub chain_serves : (level : LevelId) (items : List OpenFile) (areas : Areas) (old new : List (List ℕ)) (p : ℕ) (file changed : OpenFile) (sought : Sought) (bytes : List ℕ) (result : Result Bool SectorFault)
    → IsReady level items (seen areas old) → slice_get items p ≡ Some file → changed ≡ record file { chained = changed.chained } → new ≡ old
    → IfOk result (λ found. found_answer found bytes ≡ answer_at (records_of file.records old) (place_sought file.label (records_of file.records old) sought))
    → OnOk result (job_file_of changed ≡ with_chained (place_sought file.label (records_of file.records old) sought) (job_file_of file))
    → IfOk result (λ found. Serves (record_chained sought) p (found_answer found bytes) (Holds level items (seen areas old)) (Holds level (slice_set items p changed) (seen areas new)))
chain_serves level items areas old new p file changed sought bytes (Ok found) ready there alone same answers is =
    chain_meets level items areas old new p file changed sought (found_answer found bytes) ready there (of_chained file changed alone) same answers is
chain_serves level items areas old new p file changed sought bytes (Err fault) ready there alone same answers is = tt
