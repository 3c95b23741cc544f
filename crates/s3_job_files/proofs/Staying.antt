-- What the files of a job hold stays held where their level's slots, those of the masters and the sectors of both regions stay.
use Rattle.std.proofs.Common.{◌≡◌, ℕ, Bool, true, false, List, [], subst, ap, sym, ◌∙◌}
use Rattle.std.specs.List.{All}
use Rattle.s3_cards.specs.declared.levels.LevelId.{LevelId}
use Rattle.s3_store.specs.declared.stretch.Stretch.{Stretch}
use Rattle.s3_slots.specs.Header.{region_of}
use Rattle.s3_slots.specs.Inner.Kept.{AreKept}
use Rattle.s3_slots.specs.Labels.{sectors_of}
use Rattle.s3_slots.specs.Slots.{standing}
use Rattle.s3_slots.specs.Stretches.{IsIn}
use Rattle.s3_slots.specs.declared.header.Header.{Header}
use Rattle.s3_slots.specs.declared.label.FileLabel.{FileLabel}
use Rattle.s3_slots.specs.declared.slot.Slot.{Slot}
use Rattle.s3_slots.specs.declared.slot.Standing.TheVariants.{Present}
use Rattle.s3_labels.specs.Inner.Areas.{slots_at, IsReady as IsPackReady}
use Rattle.s3_job_files.specs.declared.file.OpenFile.{OpenFile}
use Rattle.s3_job_files.specs.Files.{Area, FilesInUse}
use Rattle.s3_job_files.specs.Inner.Holds.{Seen, slots_by, IsReady, KeepsAll, Holds}
use Rattle.s3_job_files.proofs.Frames.{SameAt, same_kept, same_of, same_records}
use Rattle.s3_job_files.proofs.Lists.{all_contained}
use Rattle.s3_job_files.proofs.Standings.{present_inside}

-- each sector of a region is the same
abbrev pub SameIn : Stretch → List (List ℕ) → List (List ℕ) → Type 0
SameIn region old new = (n : ℕ) → IsIn region n → SameAt old new n

-- a level sees the same: its slots, those of the masters, and the sectors of both regions
pub record SeesSame (level : LevelId) (old new : Seen) : Type 0 where
  pub header : new.areas.header ≡ old.areas.header
  pub masters : new.areas.masters ≡ old.areas.masters
  pub slots : slots_at level new.areas ≡ slots_at level old.areas
  pub own_sectors : SameIn (region_of level old.areas.header) old.contents new.contents
  pub master_sectors : SameIn old.areas.header.masters old.contents new.contents

pub sees_back : (level : LevelId) (old new : Seen) → SeesSame level old new → SeesSame level new old
sees_back level old new same = record {
  header = sym same.header;
  masters = sym same.masters;
  slots = sym same.slots;
  own_sectors = λ n inside. sym (same.own_sectors n (subst (λ (h : Header). IsIn (region_of level h) n) same.header inside));
  master_sectors = λ n inside. sym (same.master_sectors n (subst (λ (h : Header). IsIn h.masters n) same.header inside));
}

-- an open file keeps its sectors
same_standing : (region : Stretch) (slots : List Slot) (old new : List (List ℕ)) (label : FileLabel) → AreKept region slots → SameIn region old new
    → standing label.name slots ≡ Present label → All (SameAt old new) (sectors_of label)
same_standing region slots old new label kept same is =
    all_contained (SameAt old new) (sectors_of label) (λ n inside. same n (present_inside region slots label.name label n kept is inside))

same_by : (b : Bool) (level : LevelId) (old new : Seen) (label : FileLabel) → IsPackReady old.areas old.contents → SeesSame level old new
    → standing label.name (slots_by b level old.areas) ≡ Present label → All (SameAt old.contents new.contents) (sectors_of label)
same_by true level old new label pack same is = same_standing _ old.areas.masters old.contents new.contents label pack.masters same.master_sectors is
same_by false level old new label pack same is = same_standing _ (slots_at level old.areas) old.contents new.contents label (pack.own level) same.own_sectors is

slots_stay : (b : Bool) (level : LevelId) (old new : Seen) → SeesSame level old new → slots_by b level new.areas ≡ slots_by b level old.areas
slots_stay true level old new same = same.masters
slots_stay false level old new same = same.slots

-- requests can still be served
pub ready_over : (level : LevelId) (items : List OpenFile) (old new : Seen) → IsReady level items old → SeesSame level old new → IsPackReady new.areas new.contents → IsReady level items new
ready_over level items old new ready same pack = record {
  pack = pack;
  files = record {
    stands = λ i file there.
        let stands = ready.files.stands i file there in
        record {
          sound = ap (standing file.label.name) (slots_stay file.is_master level old new same) ∙ stands.sound;
          records = same_of old.contents new.contents file.label file.records (same_by file.is_master level old new file.label ready.pack same stands.sound) stands.records;
          master = stands.master;
        };
    distinct = ready.files.distinct;
  };
}

kept_all : (b : Bool) (level : LevelId) (old new : Seen) (items : List OpenFile) (area : Area) → IsPackReady old.areas old.contents → SeesSame level old new → area.slots ≡ slots_by b level old.areas
    → KeepsAll old.contents items area → KeepsAll new.contents items area
kept_all b level old new items area pack same slots_are keeps label is closed =
    keeps label is closed ∙ sym (same_kept old.contents new.contents label (same_by b level old new label pack same (sym (ap (standing label.name) slots_are) ∙ is)))

-- the same files are held
pub held_over : (level : LevelId) (items : List OpenFile) (old new : Seen) (in_use : FilesInUse) → IsReady level items old → SeesSame level old new → Holds level items old in_use → Holds level items new in_use
held_over level items old new in_use ready same held = record {
  files = record {
    format = held.files.format ∙ sym (ap (λ (h : Header). h.format) same.header);
    own = record { region_of_area = held.files.own.region_of_area ∙ sym (ap (region_of level) same.header); slots_of_area = held.files.own.slots_of_area ∙ sym same.slots };
    masters = record { region_of_area = held.files.masters.region_of_area ∙ sym (ap (λ (h : Header). h.masters) same.header); slots_of_area = held.files.masters.slots_of_area ∙ sym same.masters };
    own_files = kept_all false level old new items in_use.files.own ready.pack same held.files.own.slots_of_area held.files.own_files;
    master_files = kept_all true level old new [] in_use.files.masters ready.pack same held.files.masters.slots_of_area held.files.master_files;
    records = λ i file there.
        let stands = ready.files.stands i file there in
        record {
          records = (held.files.records i file there).records
              ∙ sym (same_records old.contents new.contents file.label file.records (same_by file.is_master level old new file.label ready.pack same stands.sound) stands.records);
          good = (held.files.records i file there).good;
        };
  };
  job_files = held.job_files;
}
