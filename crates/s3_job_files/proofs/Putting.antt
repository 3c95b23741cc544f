-- Requests that put a record.
use Rattle.std.proofs.Common.{◌≡◌, ◌≢◌, ◌≤◌, ℕ, inl, inr, Bool, true, false, not, ◌&&◌, List, map, length, subst, refl, ap, sym, ◌∙◌}
use Rattle.std.specs.Prelude.{slice_get, slice_set, Some, Result, Ok, Err, IfOk, OnOk, if◌then◌else◌}
use Rattle.std.specs.List.{All, Contains}
use Rattle.std.proofs.lemmas.Bool.{true≢false}
use Rattle.s3_cards.specs.declared.levels.LevelId.{LevelId}
use Rattle.s3_cards.specs.declared.name.Name.{Name}
use Rattle.s3_cards.specs.Names.{same_name}
use Rattle.s3_cards.proofs.NameLemmas.{same_name-self, same_name-equal}
use Rattle.s3_store.specs.declared.sector_fault.SectorFault.{SectorFault}
use Rattle.s3_store.specs.Inner.State.{PoolState, ChangesWithin, KeepsInStep}
use Rattle.s3_store.proofs.Frames.{step_from_within}
use Rattle.s3_store.proofs.SectorLists.{slice_set_known}
use Rattle.s3_operator.specs.declared.halt_code.HaltCode.{HaltCode}
use Rattle.s3_slots.specs.Labels.{sectors_of}
use Rattle.s3_slots.specs.Slots.{standing}
use Rattle.s3_slots.specs.declared.label.FileLabel.{FileLabel}
use Rattle.s3_slots.proofs.Runs.{none_at}
use Rattle.s3_slots.specs.declared.slot.Standing.TheVariants.{Present}
use Rattle.s3_labels.specs.Inner.Areas.{Areas, slots_at, IsReady as IsPackReady}
use Rattle.s3_labels.proofs.Regions.{accepted_placed}
use Rattle.s3_job_files.specs.declared.file.OpenFile.{OpenFile}
use Rattle.s3_job_files.specs.declared.records.Put.{Put}
use Rattle.s3_job_files.specs.declared.records.Put.TheVariants.{Done, Refused}
use Rattle.s3_job_files.specs.Kept.{Kept}
use Rattle.s3_job_files.specs.Files.{Area, Files, FilesInUse, FileAtWork, area_by, put_records}
use Rattle.s3_job_files.specs.Requests.{served_on, record_put}
use Rattle.s3_job_files.specs.Inner.Calls.{put_answer, Puts}
use Rattle.s3_job_files.specs.Inner.Holds.{Seen, seen, slots_by, Stands, AreOpen, IsReady, IsOutOfReach, job_file_of, is_open, HoldsRecords, HoldsFiles, Holds, Meets, Serves, records_of, AreOf}
use Rattle.s3_job_files.proofs.Lists.{all_contained, get_set, map_set}
use Rattle.s3_job_files.proofs.Standings.{present_inside, present_apart}
use Rattle.s3_job_files.proofs.Frames.{SameAt, same_kept, same_records, same_of}
use Rattle.s3_job_files.proofs.Held.{IsLike, at_work, is_open_set, open_set, standing_file}

-- ---- names
pub differ_sym : (a b : Name) → same_name a b ≡ false → same_name b a ≡ false
differ_sym a b h = by (same_name b a) refl
  where
    by : (c : Bool) → same_name b a ≡ c → c ≡ false
    by false e = refl
    by true e = absurd (true≢false (sym (subst (λ (n : Name). same_name a n ≡ true) (sym (same_name-equal b a e)) (same_name-self a)) ∙ h))

-- ---- files apart
pub own_sound : (level : LevelId) (s : Seen) (file : OpenFile) → Stands level s file → file.is_master ≡ false → standing file.label.name (slots_at level s.areas) ≡ Present file.label
own_sound level s file stands own = subst (λ (b : Bool). standing file.label.name (slots_by b level s.areas) ≡ Present file.label) own stands.sound

-- two files of a level under different labels have no sector in common, whichever of them is a master
pub apart_by : (b : Bool) (level : LevelId) (areas : Areas) (contents : List (List ℕ)) (one file : FileLabel) (n : ℕ) → IsPackReady areas contents
    → standing one.name (slots_by b level areas) ≡ Present one → standing file.name (slots_at level areas) ≡ Present file → same_name one.name file.name ≡ false
    → Contains (sectors_of one) n → Contains (sectors_of file) n → ⊥
apart_by true level areas contents one file n pack is here differs inside in_file =
    (accepted_placed (length contents) areas.header pack.header).masters_apart level n
    (present_inside _ (slots_at level areas) file.name file n (pack.own level) here in_file) (present_inside _ areas.masters one.name one n pack.masters is inside)
apart_by false level areas contents one file n pack is here differs inside in_file =
    true≢false (sym (same_name-self one.name) ∙ ap (λ (l : FileLabel). same_name one.name l.name) (present_apart _ (slots_at level areas) one.name file.name one file n (pack.own level) is here inside in_file) ∙ differs)

-- no sector of a region has changed but those of a file
abbrev pub SameBut : FileLabel → List (List ℕ) → List (List ℕ) → Type 0
SameBut file old new = (n : ℕ) → 168 ≤ n → ¬ Contains (sectors_of file) n → SameAt old new n

-- a sector of a valid label is in a region
pub high_by : (b : Bool) (level : LevelId) (areas : Areas) (contents : List (List ℕ)) (one : FileLabel) (n : ℕ) → IsPackReady areas contents
    → standing one.name (slots_by b level areas) ≡ Present one → Contains (sectors_of one) n → 168 ≤ n
high_by true level areas contents one n pack is inside =
    ((accepted_placed (length contents) areas.header pack.header).masters n (present_inside _ areas.masters one.name one n pack.masters is inside)).0
high_by false level areas contents one n pack is inside =
    ((accepted_placed (length contents) areas.header pack.header).level level n (present_inside _ (slots_at level areas) one.name one n (pack.own level) is inside)).0

pub same_apart : (b : Bool) (level : LevelId) (areas : Areas) (old new : List (List ℕ)) (one file : FileLabel) → IsPackReady areas old
    → standing one.name (slots_by b level areas) ≡ Present one → standing file.name (slots_at level areas) ≡ Present file → same_name one.name file.name ≡ false
    → SameBut file old new → All (SameAt old new) (sectors_of one)
same_apart b level areas old new one file pack is here differs same =
    all_contained (SameAt old new) (sectors_of one)
    (λ n inside. same n (high_by b level areas old one n pack is inside) (λ in_file. apart_by b level areas old one file n pack is here differs inside in_file))

-- the masters are apart from the level's own files, also under the same label
pub same_masters : (level : LevelId) (areas : Areas) (old new : List (List ℕ)) (one file : FileLabel) → IsPackReady areas old
    → standing one.name areas.masters ≡ Present one → standing file.name (slots_at level areas) ≡ Present file
    → SameBut file old new → All (SameAt old new) (sectors_of one)
same_masters level areas old new one file pack is here same =
    all_contained (SameAt old new) (sectors_of one) (λ n inside. same n (high_by true level areas old one n pack is inside) (λ in_file.
    (accepted_placed (length old) areas.header pack.header).masters_apart level n
    (present_inside _ (slots_at level areas) file.name file n (pack.own level) here in_file) (present_inside _ areas.masters one.name one n pack.masters is inside)))

-- two open files at different places are under different labels
pub differs_at : (level : LevelId) (items : List OpenFile) (s : Seen) (i p : ℕ) (one file : OpenFile) → AreOpen level items s → i ≢ p → slice_get items i ≡ Some one → slice_get items p ≡ Some file
    → same_name one.label.name file.label.name ≡ false
differs_at level items s i p one file stood other a b = by (same_name one.label.name file.label.name) refl
  where
    by : (c : Bool) → same_name one.label.name file.label.name ≡ c → c ≡ false
    by false e = refl
    by true e = absurd (other (stood.distinct i p one file a b e))

-- ---- what is true whatever is held
pub pack_over : (areas : Areas) (old new : List (List ℕ)) → length new ≡ length old → IsPackReady areas old → IsPackReady areas new
pack_over areas old new count pack = record { header = rw count pack.header; few = rw count pack.few; own = pack.own; masters = pack.masters }

pub stands_over : (level : LevelId) (areas : Areas) (old new : List (List ℕ)) (one : OpenFile) → All (SameAt old new) (sectors_of one.label) → Stands level (seen areas old) one → Stands level (seen areas new) one
stands_over level areas old new one same stands = record {
  sound = stands.sound;
  records = same_of old new one.label one.records same stands.records;
  master = stands.master;
}

-- the level's own file at a place has other records
pub put_ready : (level : LevelId) (items : List OpenFile) (areas : Areas) (old new : List (List ℕ)) (p : ℕ) (file changed : OpenFile) → IsReady level items (seen areas old) → slice_get items p ≡ Some file
    → file.is_master ≡ false → IsLike file changed → SameBut file.label old new → length new ≡ length old → AreOf file.label new changed.records
    → IsReady level (slice_set items p changed) (seen areas new)
put_ready level items areas old new p file changed ready there own like same count of_label = record {
  pack = pack_over areas old new count ready.pack;
  files = open_set level items (seen areas old) (seen areas new) p file changed ready.files there like.label stands others;
}
  where
    here : standing file.label.name (slots_at level areas) ≡ Present file.label
    here = own_sound level (seen areas old) file (ready.files.stands p file there) own

    stands : Stands level (seen areas new) changed
    stands = record {
      sound = subst (λ (b : Bool). standing changed.label.name (slots_by b level areas) ≡ Present changed.label) (sym (like.master ∙ own))
          (subst (λ (l : FileLabel). standing l.name (slots_at level areas) ≡ Present l) (sym like.label) here);
      records = subst (λ (l : FileLabel). AreOf l new changed.records) (sym like.label) of_label;
      master = λ is. absurd (true≢false (sym is ∙ like.master ∙ own));
    }

    others : (i : ℕ) (one : OpenFile) → i ≢ p → slice_get items i ≡ Some one → Stands level (seen areas new) one
    others i one other at =
        stands_over level areas old new one
        (same_apart one.is_master level areas old new one.label file.label ready.pack (ready.files.stands i one at).sound here
        (differs_at level items (seen areas old) i p one file ready.files other at there) same)
        (ready.files.stands i one at)

-- ---- what is held
-- other records are kept under a name of the level's own area, or the same
pub record IsPutUnder (name : Name) (records : List (List ℕ)) (old new : Files) : Type 0 where
  pub format : new.format ≡ old.format
  pub region : new.own.region ≡ old.own.region
  pub slots : new.own.slots ≡ old.own.slots
  pub masters : new.masters ≡ old.masters
  pub others : (other : Name) → same_name other name ≡ false → new.own.kept other ≡ old.own.kept other
  pub here : (new.own.kept name).records ≡ records
  pub good : (new.own.kept name).has_good_index ≡ (old.own.kept name).has_good_index

pub put_under : (name : Name) (records : List (List ℕ)) (files : Files) → IsPutUnder name records files (record files { own = put_records name records files.own })
put_under name records files = record {
  format = refl;
  region = refl;
  slots = refl;
  masters = refl;
  others = λ other differs. ap (λ (c : Bool). if c then record (files.own.kept name) { records = records } else files.own.kept other) differs;
  here = ap (λ (c : Bool). (if c then record (files.own.kept name) { records = records } else files.own.kept name).records) (same_name-self name);
  good = ap (λ (c : Bool). (if c then record (files.own.kept name) { records = records } else files.own.kept name).has_good_index) (same_name-self name);
}

pub put_none : (name : Name) (records : List (List ℕ)) (files : Files) → (files.own.kept name).records ≡ records → IsPutUnder name records files files
put_none name records files same = record { format = refl; region = refl; slots = refl; masters = refl; others = λ other differs. refl; here = same; good = refl }

open_differs : (items : List OpenFile) (p : ℕ) (file : OpenFile) (name : Name) → slice_get items p ≡ Some file → file.is_master ≡ false → is_open name items ≡ false → same_name file.label.name name ≡ false
open_differs items p file name there own closed =
    sym (ap (λ (b : Bool). not b && same_name file.label.name name) own) ∙ none_at (λ file. not file.is_master && same_name file.label.name name) items p file closed there

pub put_files : (level : LevelId) (items : List OpenFile) (areas : Areas) (old new : List (List ℕ)) (p : ℕ) (file changed : OpenFile) (files later : Files) → IsReady level items (seen areas old)
    → slice_get items p ≡ Some file → file.is_master ≡ false → IsLike file changed → SameBut file.label old new
    → IsPutUnder file.label.name (records_of changed.records new) files later
    → HoldsFiles level items (seen areas old) files → HoldsFiles level (slice_set items p changed) (seen areas new) later
put_files level items areas old new p file changed files later ready there own like same put held = record {
  format = put.format ∙ held.format;
  own = record { region_of_area = put.region ∙ held.own.region_of_area; slots_of_area = put.slots ∙ held.own.slots_of_area };
  masters = record { region_of_area = ap (λ (a : Area). a.region) put.masters ∙ held.masters.region_of_area; slots_of_area = ap (λ (a : Area). a.slots) put.masters ∙ held.masters.slots_of_area };
  own_files = λ label is closed.
      let was_closed : is_open label.name items ≡ false = sym (is_open_set items p file changed label.name there like) ∙ closed in
      let differs : same_name label.name file.label.name ≡ false = differ_sym file.label.name label.name (open_differs items p file label.name there own was_closed) in
      let stands : standing label.name (slots_at level areas) ≡ Present label = sym (ap (standing label.name) (put.slots ∙ held.own.slots_of_area)) ∙ is in
      put.others label.name differs ∙ held.own_files label (sym (ap (standing label.name) put.slots) ∙ is) was_closed
      ∙ sym (same_kept old new label (same_apart false level areas old new label file.label ready.pack stands here differs same));
  master_files = λ label is closed.
      let stands : standing label.name files.masters.slots ≡ Present label = sym (ap (λ (a : Area). standing label.name a.slots) put.masters) ∙ is in
      ap (λ (a : Area). a.kept label.name) put.masters ∙ held.master_files label stands closed
      ∙ sym (same_kept old new label (same_masters level areas old new label file.label ready.pack (sym (ap (standing label.name) held.masters.slots_of_area) ∙ stands) here same));
  records = λ i one h. elim (get_set items p i changed one h) [
    | inl is ↦ subst (λ (f : OpenFile). HoldsRecords new f ((area_by f.is_master later).kept f.label.name)) is.1 mine
    | inr before ↦ other i one before.0 before.1
  ];
}
  where
    here : standing file.label.name (slots_at level areas) ≡ Present file.label
    here = own_sound level (seen areas old) file (ready.files.stands p file there) own

    was_held : HoldsRecords old file (files.own.kept file.label.name)
    was_held = subst (λ (b : Bool). HoldsRecords old file ((area_by b files).kept file.label.name)) own (held.records p file there)

    mine : HoldsRecords new changed ((area_by changed.is_master later).kept changed.label.name)
    mine = subst (λ (b : Bool). HoldsRecords new changed ((area_by b later).kept changed.label.name)) (sym (like.master ∙ own))
        (subst (λ (l : FileLabel). HoldsRecords new changed (later.own.kept l.name)) (sym like.label) (record { records = put.here; good = put.good ∙ was_held.good }))

    other : (i : ℕ) (one : OpenFile) → i ≢ p → slice_get items i ≡ Some one → HoldsRecords new one ((area_by one.is_master later).kept one.label.name)
    other i one elsewhere at =
        let differs : same_name one.label.name file.label.name ≡ false = differs_at level items (seen areas old) i p one file ready.files elsewhere at there in
        let stands = ready.files.stands i one at in
        let kept : (area_by one.is_master later).kept one.label.name ≡ (area_by one.is_master files).kept one.label.name = kept_else one.is_master one.label.name differs in
        record {
          records = ap (λ (k : Kept). k.records) kept ∙ (held.records i one at).records
              ∙ sym (same_records old new one.label one.records (same_apart one.is_master level areas old new one.label file.label ready.pack stands.sound here differs same) stands.records);
          good = ap (λ (k : Kept). k.has_good_index) kept ∙ (held.records i one at).good;
        }
      where
        kept_else : (b : Bool) (name : Name) → same_name name file.label.name ≡ false → (area_by b later).kept name ≡ (area_by b files).kept name
        kept_else true name differs = ap (λ (a : Area). a.kept name) put.masters
        kept_else false name differs = put.others name differs

-- ---- the request is served
-- it has other records under the same label
pub record IsPut (old new : OpenFile) : Type 0 where
  pub like : IsLike old new
  pub job_file : job_file_of new ≡ job_file_of old

pub of_put : (old new : OpenFile) → new ≡ record old { records = new.records } → IsPut old new
of_put old new alone = record { like = record { label = ap (λ (f : OpenFile). f.label) alone; master = ap (λ (f : OpenFile). f.is_master) alone }; job_file = ap job_file_of alone }

-- an update is counted, and that is all that is new of it
pub of_update : (old new : OpenFile) → new ≡ record old { updates = new.updates } → IsPut old new
of_update old new alone = record { like = record { label = ap (λ (f : OpenFile). f.label) alone; master = ap (λ (f : OpenFile). f.is_master) alone }; job_file = ap job_file_of alone }

put_held : (level : LevelId) (items : List OpenFile) (areas : Areas) (old new : List (List ℕ)) (p : ℕ) (file changed : OpenFile) (in_use : FilesInUse) (later : Files) → IsReady level items (seen areas old)
    → slice_get items p ≡ Some file → file.is_master ≡ false → IsPut file changed → SameBut file.label old new
    → IsPutUnder file.label.name (records_of changed.records new) in_use.files later
    → Holds level items (seen areas old) in_use → Holds level (slice_set items p changed) (seen areas new) (record in_use { files = later })
put_held level items areas old new p file changed in_use later ready there own is same put held = record {
  files = put_files level items areas old new p file changed in_use.files later ready there own is.like same put held.files;
  job_files = held.job_files
      ∙ sym (ap (map job_file_of) (slice_set_known items p file there)) ∙ map_set job_file_of items p file ∙ ap (slice_set (map job_file_of items) p) (sym is.job_file)
      ∙ sym (map_set job_file_of items p changed);
}

own_kept : (level : LevelId) (items : List OpenFile) (areas : Areas) (old : List (List ℕ)) (p : ℕ) (file : OpenFile) (in_use : FilesInUse) → slice_get items p ≡ Some file → file.is_master ≡ false
    → Holds level items (seen areas old) in_use → (in_use.files.own.kept file.label.name).records ≡ records_of file.records old
own_kept level items areas old p file in_use there own held =
    (subst (λ (b : Bool). HoldsRecords old file ((area_by b in_use.files).kept file.label.name)) own (held.files.records p file there)).records

put_meets : (level : LevelId) (items : List OpenFile) (areas : Areas) (old new : List (List ℕ)) (p : ℕ) (file changed : OpenFile) (meant : FileAtWork → Result (List (List ℕ)) HaltCode) (put : Put)
    → IsReady level items (seen areas old) → slice_get items p ≡ Some file → file.is_master ≡ false → IsPut file changed → SameBut file.label old new
    → Puts (meant (standing_file p file old)) put (records_of file.records old) (records_of changed.records new)
    → Serves (λ at. record_put (meant at) at) p (put_answer put) (Holds level items (seen areas old)) (Holds level (slice_set items p changed) (seen areas new))
put_meets level items areas old new p file changed meant Done ready there own is same puts in_use held =
    subst (λ at. Meets (put_answer Done) (Holds level (slice_set items p changed) (seen areas new)) (served_on (λ at. record_put (meant at) at) at in_use))
    (sym (at_work level items (seen areas old) in_use p file ready held there))
    (subst (λ r. Meets (put_answer Done) (Holds level (slice_set items p changed) (seen areas new)) (Some (record_put r (standing_file p file old) in_use))) (sym puts)
    (refl, put_held level items areas old new p file changed in_use _ ready there own is same (put_under file.label.name (records_of changed.records new) in_use.files) held))
put_meets level items areas old new p file changed meant (Refused code) ready there own is same puts in_use held =
    subst (λ at. Meets (put_answer (Refused code)) (Holds level (slice_set items p changed) (seen areas new)) (served_on (λ at. record_put (meant at) at) at in_use))
    (sym (at_work level items (seen areas old) in_use p file ready held there))
    (subst (λ r. Meets (put_answer (Refused code)) (Holds level (slice_set items p changed) (seen areas new)) (Some (record_put r (standing_file p file old) in_use))) (sym puts.0) (
      refl,
      put_held level items areas old new p file changed in_use in_use.files ready there own is same
          (put_none file.label.name (records_of changed.records new) in_use.files (own_kept level items areas old p file in_use there own held ∙ sym puts.1)) held,
    ))

pub put_serves : (level : LevelId) (items : List OpenFile) (areas : Areas) (s t : PoolState) (p : ℕ) (file changed : OpenFile) (meant : FileAtWork → Result (List (List ℕ)) HaltCode) (result : Result Put SectorFault)
    → IsReady level items (seen areas s.contents) → slice_get items p ≡ Some file → file.is_master ≡ false → IsPut file changed → ChangesWithin (Contains (sectors_of file.label)) s t
    → IfOk result (λ put. Puts (meant (standing_file p file s.contents)) put (records_of file.records s.contents) (records_of changed.records t.contents))
    → IfOk result (λ put. Serves (λ at. record_put (meant at) at) p (put_answer put) (Holds level items (seen areas s.contents)) (Holds level (slice_set items p changed) (seen areas t.contents)))
put_serves level items areas s t p file changed meant (Ok put) ready there own is within puts =
    put_meets level items areas s.contents t.contents p file changed meant put ready there own is (λ n high out. within.contents n out) puts
put_serves level items areas s t p file changed meant (Err fault) ready there own is within puts = tt

pub put_ready_if : (level : LevelId) (items : List OpenFile) (areas : Areas) (s t : PoolState) (p : ℕ) (file changed : OpenFile) (result : Result Put SectorFault)
    → IsReady level items (seen areas s.contents) → slice_get items p ≡ Some file → file.is_master ≡ false → IsPut file changed → ChangesWithin (Contains (sectors_of file.label)) s t
    → OnOk result (AreOf file.label t.contents changed.records) → OnOk result (IsReady level (slice_set items p changed) (seen areas t.contents))
put_ready_if level items areas s t p file changed (Ok put) ready there own is within of_label =
    put_ready level items areas s.contents t.contents p file changed ready there own is.like (λ n high out. within.contents n out) within.count of_label
put_ready_if level items areas s t p file changed (Err fault) ready there own is within of_label = tt

-- ---- what it spares
pub file_spares : (level : LevelId) (areas : Areas) (s t : PoolState) (file : FileLabel) → IsPackReady areas s.contents → standing file.name (slots_at level areas) ≡ Present file
    → ChangesWithin (Contains (sectors_of file)) s t → KeepsInStep (IsOutOfReach level areas.header) s t
file_spares level areas s t file pack is within =
    step_from_within (Contains (sectors_of file)) (IsOutOfReach level areas.header) s t
    (λ n out inside. out.region (present_inside _ (slots_at level areas) file.name file n (pack.own level) is inside)) within
