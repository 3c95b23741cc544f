-- What the files of a job hold, and a file of them at work.
use Rattle.std.proofs.Common.{◌≡◌, ◌≢◌, ℕ, inl, inr, Bool, true, false, not, ◌&&◌, List, length, subst, refl, ap, ap₂, sym, ◌∙◌}
use Rattle.std.specs.Prelude.{slice_get, slice_set, Some}
use Rattle.s3_cards.specs.declared.levels.LevelId.{LevelId}
use Rattle.s3_cards.specs.declared.name.Name.{Name}
use Rattle.s3_cards.specs.Names.{same_name}
use Rattle.s3_slots.specs.Inner.Kept.{IsOfPack}
use Rattle.s3_slots.specs.Slots.{standing}
use Rattle.s3_slots.specs.declared.label.FileLabel.{FileLabel}
use Rattle.s3_slots.specs.declared.slot.Standing.TheVariants.{Present}
use Rattle.s3_labels.specs.Inner.Areas.{Areas, IsReady as IsPackReady}
use Rattle.s3_labels.proofs.Regions.{own_on_pack, master_on_pack}
use Rattle.s3_job_files.specs.declared.file.OpenFile.{OpenFile}
use Rattle.s3_job_files.specs.Files.{Files, FilesInUse, FileAtWork, area_by, as_it_stands, file_at, labelled}
use Rattle.s3_job_files.specs.Inner.Holds.{Seen, slots_by, Stands, AreOpen, IsReady, IsUsable, job_file_of, is_open, HoldsFiles, Holds, records_of}
use Rattle.s3_job_files.proofs.Lists.{get_mapped, get_set, any_set}

-- ---- a file on the pack
pub on_pack_by : (b : Bool) (level : LevelId) (areas : Areas) (contents : List (List ℕ)) (label : FileLabel) → standing label.name (slots_by b level areas) ≡ Present label → IsPackReady areas contents
    → IsOfPack (length contents) label
on_pack_by true level areas contents label stands ready = master_on_pack areas contents label.name label stands ready
on_pack_by false level areas contents label stands ready = own_on_pack level areas contents label.name label stands ready

-- an open file can be used
pub usable_at : (level : LevelId) (items : List OpenFile) (s : Seen) (i : ℕ) (file : OpenFile) → IsReady level items s → slice_get items i ≡ Some file → IsUsable s.contents file.label file.records
usable_at level items s i file ready there =
    let stands = ready.files.stands i file there in
    record { on_pack = on_pack_by file.is_master level s.areas s.contents file.label stands.sound ready.pack; of_label = stands.records }

-- ---- a file at work
slots_same : (b : Bool) (level : LevelId) (items : List OpenFile) (s : Seen) (files : Files) → HoldsFiles level items s files → (area_by b files).slots ≡ slots_by b level s.areas
slots_same true level items s files held = held.masters.slots_of_area
slots_same false level items s files held = held.own.slots_of_area

abbrev pub standing_file : ℕ → OpenFile → List (List ℕ) → FileAtWork
standing_file place file contents = record { place = place; file = job_file_of file; label = file.label; records = records_of file.records contents }

-- the file at a place of the job's is the one that is open there
pub at_work : (level : LevelId) (items : List OpenFile) (s : Seen) (in_use : FilesInUse) (place : ℕ) (file : OpenFile) → IsReady level items s → Holds level items s in_use
    → slice_get items place ≡ Some file → file_at in_use (Some place) ≡ Some (standing_file place file s.contents)
at_work level items s in_use place file ready held there =
    ap (λ files. as_it_stands in_use.files place (slice_get files place)) held.job_files
    ∙ ap (as_it_stands in_use.files place) (get_mapped job_file_of items place file there)
    ∙ ap (labelled place (job_file_of file) ((area_by file.is_master in_use.files).kept file.label.name).records)
    (ap (standing file.label.name) (slots_same file.is_master level items s in_use.files held.files) ∙ (ready.files.stands place file there).sound)
    ∙ ap (λ rs. labelled place (job_file_of file) rs (Present file.label)) (held.files.records place file there).records

-- ---- one open file set
-- it is under the same label
pub record IsLike (old new : OpenFile) : Type 0 where
  pub label : new.label ≡ old.label
  pub master : new.is_master ≡ old.is_master

was : (items : List OpenFile) (p i : ℕ) (old new file : OpenFile) → slice_get items p ≡ Some old → new.label ≡ old.label → slice_get (slice_set items p new) i ≡ Some file
    → (before : OpenFile) × (slice_get items i ≡ Some before) × (before.label ≡ file.label)
was items p i old new file there same h = elim (get_set items p i new file h) [
  | inl here ↦ (old, ap (slice_get items) here.0 ∙ there, sym same ∙ ap (λ f. f.label) here.1)
  | inr before ↦ (file, before.1, refl)
]

pub open_set : (level : LevelId) (items : List OpenFile) (old new : Seen) (p : ℕ) (file changed : OpenFile) → AreOpen level items old → slice_get items p ≡ Some file → changed.label ≡ file.label
    → Stands level new changed → ((i : ℕ) (one : OpenFile) → i ≢ p → slice_get items i ≡ Some one → Stands level new one) → AreOpen level (slice_set items p changed) new
open_set level items old new p file changed stood there same stands others = record {
  stands = λ i one h. elim (get_set items p i changed one h) [
    | inl here ↦ subst (Stands level new) here.1 stands
    | inr before ↦ others i one before.0 before.1
  ];
  distinct = λ i j first second h k named.
      let a = was items p i file changed first there same h in
      let b = was items p j file changed second there same k in
      stood.distinct i j a.0 b.0 a.1 b.1 (ap (λ l. same_name l.name b.0.label.name) a.2 ∙ ap (λ l. same_name first.label.name l.name) b.2 ∙ named);
}

pub is_open_set : (items : List OpenFile) (p : ℕ) (file changed : OpenFile) (name : Name) → slice_get items p ≡ Some file → IsLike file changed → is_open name (slice_set items p changed) ≡ is_open name items
is_open_set items p file changed name there like = any_set (λ file. not file.is_master && same_name file.label.name name) items p file changed there
    (ap₂ (λ (b : Bool) (l : FileLabel). not b && same_name l.name name) like.master like.label)
