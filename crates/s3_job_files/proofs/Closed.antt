-- A file is closed: what is held without it, and the other files that are open.
use Rattle.std.proofs.Common.{◌≡◌, ◌&&◌, ◌||◌, ℕ, suc, Bool, true, false, not, List, [], ◌∷◌, map, length, arith, subst, refl, ap, ap₂, sym, ◌∙◌}
use Rattle.std.specs.Prelude.{slice_get, Some, Result, Ok, Err, OnOk, if◌then◌else◌}
use Rattle.std.specs.List.{All, Contains}
use Rattle.s3_cards.specs.declared.levels.LevelId.{LevelId}
use Rattle.s3_cards.specs.declared.name.Name.{Name}
use Rattle.s3_cards.specs.Names.{same_name}
use Rattle.s3_cards.proofs.NameLemmas.{same_name-equal}
use Rattle.s3_store.specs.Inner.State.{PoolState, ChangesWithin}
use Rattle.s3_store.proofs.Frames.{within_refl}
use Rattle.s3_store.specs.declared.sector_fault.SectorFault.{SectorFault}
use Rattle.s3_slots.specs.Header.{region_of}
use Rattle.s3_slots.specs.Labels.{sectors_of}
use Rattle.s3_slots.specs.Making.{counted, dropped}
use Rattle.s3_slots.specs.Slots.{standing}
use Rattle.s3_slots.specs.declared.header.Header.{Header}
use Rattle.s3_slots.specs.declared.label.FileLabel.{FileLabel}
use Rattle.s3_slots.specs.declared.slot.Slot.{Slot}
use Rattle.s3_slots.specs.declared.slot.Standing.{Standing}
use Rattle.s3_slots.specs.declared.slot.Standing.TheVariants.{Present}
use Rattle.s3_labels.specs.Areas.{area_of, IsLabelSector}
use Rattle.s3_labels.specs.Inner.Areas.{Areas, slots_at, with_slots, MayHave, IsReady as IsPackReady}
use Rattle.s3_job_files.specs.declared.file.OpenFile.{OpenFile}
use Rattle.s3_job_files.specs.Kept.{Kept, kept_on}
use Rattle.s3_job_files.specs.Files.{Files, area_by}
use Rattle.s3_job_files.specs.Closing.{closed_by, closed_slots, file_closed, files_closed, is_kept_for_job, is_scratch}
use Rattle.s3_job_files.specs.Inner.Packs.{ChangesLabels, LeavesPack}
use Rattle.s3_job_files.specs.Inner.Holds.{Seen, seen, slots_by, IsUsable, Stands, AreOpen, IsReady, Closes, job_file_of, is_open, HoldsRecords, HoldsFiles, records_of, count_of}
use Rattle.s3_job_files.proofs.Lists.{all_contained}
use Rattle.s3_job_files.proofs.Held.{on_pack_by}
use Rattle.s3_job_files.proofs.Frames.{SameAt, same_kept, same_records}
use Rattle.s3_job_files.proofs.OneFile.{count_allowed, count_records}
use Rattle.s3_job_files.proofs.Packs.{header_kept, masters_kept, not_label, pack_kept}
use Rattle.s3_job_files.proofs.Putting.{SameBut, differ_sym, differs_at, high_by, own_sound, same_apart, same_masters, stands_over}
use Rattle.s3_job_files.proofs.Slots.{counted_else, counted_here, counted_same, dropped_else, dropped_none}

-- ---- the files that are left
rest_distinct : (level : LevelId) (file : OpenFile) (rest : List OpenFile) (s : Seen) → AreOpen level (file ∷ rest) s → (i j : ℕ) (first second : OpenFile) → slice_get rest i ≡ Some first
    → slice_get rest j ≡ Some second → same_name first.label.name second.label.name ≡ true → i ≡ j
rest_distinct level file rest s stood i j first second one two named = let same : suc i ≡ suc j = stood.distinct (suc i) (suc j) first second one two named in omega (arith, same)

-- a master is closed
pub closes_master : (level : LevelId) (file : OpenFile) (s : Seen) → file.is_master ≡ true → Closes level file s s
closes_master level file s master = record {
  ready = λ rest ready. record {
    pack = ready.pack;
    files = record { stands = λ i one there. ready.files.stands (suc i) one there; distinct = rest_distinct level file rest s ready.files };
  };
  files = λ rest files ready held. subst (λ (b : Bool). HoldsFiles level rest s (closed_by b (job_file_of file) files)) (sym master) (record {
    format = held.format;
    own = held.own;
    masters = held.masters;
    own_files = λ label is closed. held.own_files label is (ap (λ (b : Bool). (not b && same_name file.label.name label.name) || is_open label.name rest) master ∙ closed);
    master_files = held.master_files;
    records = λ i one there. held.records (suc i) one there;
  });
}

-- ---- a file of the level's own is closed
-- The pack after that: other names have what they had before. The file's own name, if a file has it, has its records.
pub record IsClosed (level : LevelId) (file : OpenFile) (areas new_areas : Areas) (old new : List (List ℕ)) : Type 0 where
  pub slots : slots_at level new_areas ≡ closed_slots (job_file_of file) (count_of file.records) (slots_at level areas)
  pub alone : new_areas ≡ with_slots level (slots_at level new_areas) areas
  pub ready : IsPackReady new_areas new
  pub same : SameBut file.label old new
  pub others : (name : Name) → same_name file.label.name name ≡ false → standing name (slots_at level new_areas) ≡ standing name (slots_at level areas)
  pub here : (label : FileLabel) → standing label.name (slots_at level new_areas) ≡ Present label → same_name file.label.name label.name ≡ true
      → kept_on label new ≡ record { records = records_of file.records old; has_good_index = true }

header_is : (level : LevelId) (file : OpenFile) (areas new_areas : Areas) (old new : List (List ℕ)) → IsClosed level file areas new_areas old new → new_areas.header ≡ areas.header
header_is level file areas new_areas old new closed = header_kept level areas new_areas closed.alone

masters_are : (level : LevelId) (file : OpenFile) (areas new_areas : Areas) (old new : List (List ℕ)) → IsClosed level file areas new_areas old new → new_areas.masters ≡ areas.masters
masters_are level file areas new_areas old new closed = masters_kept level areas new_areas closed.alone

module _ (level : LevelId) (file : OpenFile) (rest : List OpenFile) (areas new_areas : Areas) (old new : List (List ℕ)) (ready : IsReady level (file ∷ rest) (seen areas old)) (own : file.is_master ≡ false)
    (closed : IsClosed level file areas new_areas old new) where
  here : standing file.label.name (slots_at level areas) ≡ Present file.label
  here = own_sound level (seen areas old) file (ready.files.stands 0 file refl) own

  differs : (i : ℕ) (one : OpenFile) → slice_get rest i ≡ Some one → same_name one.label.name file.label.name ≡ false
  differs i one there = differs_at level (file ∷ rest) (seen areas old) (suc i) 0 one file ready.files (λ same. omega (arith, same)) there refl

  sound_by : (b : Bool) (one : OpenFile) → same_name one.label.name file.label.name ≡ false → standing one.label.name (slots_by b level areas) ≡ Present one.label
      → standing one.label.name (slots_by b level new_areas) ≡ Present one.label
  sound_by true one other is = ap (standing one.label.name) (masters_are level file areas new_areas old new closed) ∙ is
  sound_by false one other is = closed.others one.label.name (differ_sym one.label.name file.label.name other) ∙ is

  unchanged : (i : ℕ) (one : OpenFile) → slice_get rest i ≡ Some one → All (SameAt old new) (sectors_of one.label)
  unchanged i one there = same_apart one.is_master level areas old new one.label file.label ready.pack (ready.files.stands (suc i) one there).sound here (differs i one there) closed.same

  closed_ready : IsReady level rest (seen new_areas new)
  closed_ready = record {
    pack = closed.ready;
    files = record {
      stands = λ i one there.
          let before = stands_over level areas old new one (unchanged i one there) (ready.files.stands (suc i) one there) in
          record { sound = sound_by one.is_master one (differs i one there) before.sound; records = before.records; master = before.master };
      distinct = rest_distinct level file rest (seen areas old) ready.files;
    };
  }

  module _ (files : Files) (held : HoldsFiles level (file ∷ rest) (seen areas old) files) where
    mine : HoldsRecords old file (files.own.kept file.label.name)
    mine = subst (λ (b : Bool). HoldsRecords old file ((area_by b files).kept file.label.name)) own (held.records 0 file refl)

    kept_here : files.own.kept file.label.name ≡ record { records = records_of file.records old; has_good_index = true }
    kept_here = ap₂ (λ (r : List (List ℕ)) (g : Bool). let k : Kept = record { records = r; has_good_index = g } in k) mine.records mine.good

    many : length (files.own.kept file.label.name).records ≡ count_of file.records
    many = ap length mine.records ∙ count_records old file.records

    slots_are : closed_slots (job_file_of file) (length (files.own.kept file.label.name).records) files.own.slots ≡ slots_at level new_areas
    slots_are = ap₂ (λ n slots. closed_slots (job_file_of file) n slots) many held.own.slots_of_area ∙ sym closed.slots

    still_closed : (name : Name) → same_name file.label.name name ≡ false → is_open name rest ≡ false → is_open name (file ∷ rest) ≡ false
    still_closed name other is = ap₂ (λ (x y : Bool). x || y) (ap₂ (λ (m s : Bool). not m && s) own other) is

    own_kept : (label : FileLabel) (b : Bool) → same_name file.label.name label.name ≡ b → standing label.name (slots_at level new_areas) ≡ Present label → is_open label.name rest ≡ false
        → files.own.kept label.name ≡ kept_on label new
    own_kept label true same is not_open =
        ap files.own.kept (sym (same_name-equal file.label.name label.name same)) ∙ kept_here ∙ sym (closed.here label is same)
    own_kept label false other is not_open =
        let before : standing label.name (slots_at level areas) ≡ Present label = sym (closed.others label.name other) ∙ is in
        held.own_files label (ap (standing label.name) held.own.slots_of_area ∙ before) (still_closed label.name other not_open)
        ∙ sym (same_kept old new label (same_apart false level areas old new label file.label ready.pack before here (differ_sym file.label.name label.name other) closed.same))

    opened_by : (b : Bool) (one : OpenFile) → HoldsRecords new one ((area_by b files).kept one.label.name)
        → HoldsRecords new one ((area_by b (closed_by false (job_file_of file) files)).kept one.label.name)
    opened_by true one h = h
    opened_by false one h = h

    closed_files : HoldsFiles level rest (seen new_areas new) (file_closed (job_file_of file) files)
    closed_files = subst (λ (b : Bool). HoldsFiles level rest (seen new_areas new) (closed_by b (job_file_of file) files)) (sym own) (record {
      format = held.format ∙ sym (ap (λ (h : Header). h.format) (header_is level file areas new_areas old new closed));
      own = record { region_of_area = held.own.region_of_area ∙ sym (ap (region_of level) (header_is level file areas new_areas old new closed)); slots_of_area = slots_are };
      masters = record {
        region_of_area = held.masters.region_of_area ∙ sym (ap (λ (h : Header). h.masters) (header_is level file areas new_areas old new closed));
        slots_of_area = held.masters.slots_of_area ∙ sym (masters_are level file areas new_areas old new closed);
      };
      own_files = λ label is not_open. own_kept label (same_name file.label.name label.name) refl (sym (ap (standing label.name) slots_are) ∙ is) not_open;
      master_files = λ label is not_open. held.master_files label is not_open
          ∙ sym (same_kept old new label (same_masters level areas old new label file.label ready.pack (sym (ap (standing label.name) held.masters.slots_of_area) ∙ is) here closed.same));
      records = λ i one there.
          let stands = ready.files.stands (suc i) one there in
          let before = held.records (suc i) one there in
          opened_by one.is_master one (record { records = before.records ∙ sym (same_records old new one.label one.records (unchanged i one there) stands.records); good = before.good });
    })

pub closes_own : (level : LevelId) (file : OpenFile) (areas new_areas : Areas) (old new : List (List ℕ)) → file.is_master ≡ false → IsClosed level file areas new_areas old new
    → Closes level file (seen areas old) (seen new_areas new)
closes_own level file areas new_areas old new own closed = record {
  ready = λ rest ready. closed_ready level file rest areas new_areas old new ready own closed;
  files = λ rest files ready held. closed_files level file rest areas new_areas old new ready own closed files held;
}

-- ---- its label is dropped
goes : (file : OpenFile) (n : ℕ) (slots : List Slot) → standing file.label.name slots ≡ Present file.label → (file.is_made && is_kept_for_job file.label.retention) ≡ true
    → closed_slots (job_file_of file) n slots ≡ dropped file.label.name slots
goes file n slots stands is =
    ap (λ (standing : Standing). if file.is_made && is_scratch standing then dropped file.label.name slots else counted file.label.name n slots) stands
    ∙ ap (λ (b : Bool). if b then dropped file.label.name slots else counted file.label.name n slots) is

stays : (file : OpenFile) (n : ℕ) (slots : List Slot) → standing file.label.name slots ≡ Present file.label → (file.is_made && is_kept_for_job file.label.retention) ≡ false
    → closed_slots (job_file_of file) n slots ≡ counted file.label.name n slots
stays file n slots stands is =
    ap (λ (standing : Standing). if file.is_made && is_scratch standing then dropped file.label.name slots else counted file.label.name n slots) stands
    ∙ ap (λ (b : Bool). if b then dropped file.label.name slots else counted file.label.name n slots) is

dropped_closed : {done : Unit {0}} (level : LevelId) (file : OpenFile) (areas new_areas : Areas) (s t : PoolState) → IsPackReady areas s.contents → standing file.label.name (slots_at level areas) ≡ Present file.label
    → (file.is_made && is_kept_for_job file.label.retention) ≡ true → slots_at level new_areas ≡ dropped file.label.name (slots_at level areas)
    → ChangesLabels level (Ok done) areas new_areas s t → IsClosed level file areas new_areas s.contents t.contents
dropped_closed level file areas new_areas s t pack stands is slots labels = record {
  slots = slots ∙ sym (goes file (count_of file.records) (slots_at level areas) stands is);
  alone = labels.leaves.others.areas;
  ready = labels.leaves.others.pack;
  same = λ n high out. labels.within.contents n (not_label level n (omega (arith, high)));
  others = λ name other. ap (standing name) slots ∙ dropped_else file.label.name (slots_at level areas) file.label name stands other;
  here = λ label after same. absurd (dropped_none _ file.label.name (slots_at level areas) file.label label (pack.own level) stands (sym (ap (standing label.name) slots) ∙ after) same);
}

pub closes_dropped : (level : LevelId) (file : OpenFile) (areas new_areas : Areas) (s t : PoolState) (result : Result (Unit {0}) SectorFault) → IsPackReady areas s.contents → Stands level (seen areas s.contents) file
    → file.is_master ≡ false → (file.is_made && is_kept_for_job file.label.retention) ≡ true → OnOk result (slots_at level new_areas ≡ dropped file.label.name (slots_at level areas))
    → ChangesLabels level result areas new_areas s t → OnOk result (Closes level file (seen areas s.contents) (seen new_areas t.contents))
closes_dropped level file areas new_areas s t (Ok done) pack stands own is slots labels =
    closes_own level file areas new_areas s.contents t.contents own (dropped_closed level file areas new_areas s t pack (own_sound level (seen areas s.contents) file stands own) is slots labels)
closes_dropped level file areas new_areas s t (Err fault) pack stands own is slots labels = tt

-- ---- its count is set
grown_sectors : (label : FileLabel) (n : ℕ) → sectors_of (record label { count = n }) ≡ sectors_of label
unfolding sectors_of
grown_sectors label n = refl

counted_closed : {done : Unit {0}} (level : LevelId) (file : OpenFile) (areas new_areas : Areas) (s u t : PoolState) → IsPackReady areas s.contents → standing file.label.name (slots_at level areas) ≡ Present file.label
    → (file.is_made && is_kept_for_job file.label.retention) ≡ false
    → kept_on (record file.label { count = count_of file.records }) u.contents ≡ record { records = records_of file.records s.contents; has_good_index = true }
    → ChangesWithin (Contains (sectors_of file.label)) s u → slots_at level new_areas ≡ counted file.label.name (count_of file.records) (slots_at level areas)
    → ChangesLabels level (Ok done) areas new_areas u t → IsClosed level file areas new_areas s.contents t.contents
counted_closed level file areas new_areas s u t pack stands is kept first slots labels = record {
  slots = slots ∙ sym (stays file (count_of file.records) (slots_at level areas) stands is);
  alone = labels.leaves.others.areas;
  ready = labels.leaves.others.pack;
  same = λ n high out. labels.within.contents n (not_label level n (omega (arith, high))) ∙ first.contents n out;
  others = λ name other. ap (standing name) slots ∙ counted_else file.label.name (count_of file.records) (slots_at level areas) file.label name stands other;
  here = λ label after same.
      let grown : FileLabel = record file.label { count = count_of file.records } in
      let now : standing label.name (slots_at level new_areas) ≡ Present grown =
      ap (λ name. standing name (slots_at level new_areas)) (sym (same_name-equal file.label.name label.name same)) ∙ ap (standing file.label.name) slots
      ∙ counted_here file.label.name (count_of file.records) (slots_at level areas) file.label stands in
      let both : Present grown ≡ Present label = sym now ∙ after in
      let is_grown : grown ≡ label = cc in
      ap (λ (l : FileLabel). kept_on l t.contents) (sym is_grown) ∙ same_kept u.contents t.contents grown (subst (All (SameAt u.contents t.contents)) (sym (grown_sectors file.label (count_of file.records)))
      (all_contained (SameAt u.contents t.contents) (sectors_of file.label) (λ n inside. labels.within.contents n (not_label level n (let high = high_by false level areas s.contents file.label n pack stands inside in omega (arith, high)))))) ∙ kept;
}

pub closes_counted : (level : LevelId) (file : OpenFile) (n : ℕ) (areas new_areas : Areas) (s u t : PoolState) (result : Result (Unit {0}) SectorFault) → IsPackReady areas s.contents
    → Stands level (seen areas s.contents) file → file.is_master ≡ false → (file.is_made && is_kept_for_job file.label.retention) ≡ false → n ≡ count_of file.records
    → kept_on (record file.label { count = count_of file.records }) u.contents ≡ record { records = records_of file.records s.contents; has_good_index = true }
    → ChangesWithin (Contains (sectors_of file.label)) s u → OnOk result (slots_at level new_areas ≡ counted file.label.name n (slots_at level areas))
    → ChangesLabels level result areas new_areas u t → OnOk result (Closes level file (seen areas s.contents) (seen new_areas t.contents))
closes_counted level file n areas new_areas s u t (Ok done) pack stands own is counts kept first slots labels =
    closes_own level file areas new_areas s.contents t.contents own
    (counted_closed level file areas new_areas s u t pack (own_sound level (seen areas s.contents) file stands own) is kept first
    (slots ∙ ap (λ m. counted file.label.name m (slots_at level areas)) counts) labels)
closes_counted level file n areas new_areas s u t (Err fault) pack stands own is counts kept first slots labels = tt

-- a file is closed whose label has its count
pub closes_as_counted : (level : LevelId) (file : OpenFile) (areas : Areas) (s u : PoolState) → IsPackReady areas s.contents
    → Stands level (seen areas s.contents) file → file.is_master ≡ false → (file.is_made && is_kept_for_job file.label.retention) ≡ false
    → count_of file.records ≡ file.label.count
    → kept_on (record file.label { count = count_of file.records }) u.contents ≡ record { records = records_of file.records s.contents; has_good_index = true }
    → ChangesWithin (Contains (sectors_of file.label)) s u → LeavesPack level (Ok (tt {0})) areas areas s u
    → Closes level file (seen areas s.contents) (seen areas u.contents)
closes_as_counted level file areas s u pack stands own is same kept first leaves =
    closes_counted level file (count_of file.records) areas areas s u u (Ok (tt {0})) pack stands own is refl kept first
    (sym (ap (λ m. counted file.label.name m (slots_at level areas)) same ∙ counted_same file.label.name (slots_at level areas) file.label (own_sound level (seen areas s.contents) file stands own)))
    (record { within = within_refl (IsLabelSector (area_of level)) u; leaves = pack_kept level areas u (tt {0}) leaves.others.pack })

-- ---- what the calls ask
pub usable_alone : (level : LevelId) (areas : Areas) (contents : List (List ℕ)) (file : OpenFile) → IsPackReady areas contents → Stands level (seen areas contents) file → IsUsable contents file.label file.records
usable_alone level areas contents file pack stands = record { on_pack = on_pack_by file.is_master level areas contents file.label stands.sound pack; of_label = stands.records }

pub room_for : (level : LevelId) (areas : Areas) (contents : List (List ℕ)) (file : OpenFile) (n : ℕ) → IsPackReady areas contents → Stands level (seen areas contents) file → file.is_master ≡ false
    → n ≡ count_of file.records → MayHave n (standing file.label.name (slots_at level areas))
room_for level areas contents file n pack stands own is =
    subst (λ (m : ℕ). MayHave m (standing file.label.name (slots_at level areas))) (sym is)
    (subst (MayHave (count_of file.records)) (sym (own_sound level (seen areas contents) file stands own))
    (count_allowed contents file.label file.records (usable_alone level areas contents file pack stands)))

-- ---- one file after another
-- whatever was held with these files is held without any, all of them closed
abbrev pub ClosesAll : LevelId → List OpenFile → (old new : Seen) → Type 0
ClosesAll level files old new = (held : Files) → HoldsFiles level files old held → HoldsFiles level [] new (files_closed (map job_file_of files) held)

pub closes_none : (level : LevelId) (files : List OpenFile) (s : Seen) → length files ≡ 0 → ClosesAll level files s s
unfolding files_closed
closes_none level [] s none = λ held is. is
closes_none level (file ∷ rest) s none = absurd (omega arith)

pub first_stands : (level : LevelId) (files : List OpenFile) (file : OpenFile) (rest : List OpenFile) (s : Seen) → files ≡ file ∷ rest → IsReady level files s → Stands level s file
first_stands level files file rest s is ready = (subst (λ (l : List OpenFile). IsReady level l s) is ready).files.stands 0 file refl

pub rest_ready : (level : LevelId) (files : List OpenFile) (file : OpenFile) (rest : List OpenFile) (s t : Seen) → files ≡ file ∷ rest → IsReady level files s → Closes level file s t → IsReady level rest t
rest_ready level files file rest s t is ready closes = closes.ready rest (subst (λ (l : List OpenFile). IsReady level l s) is ready)

pub closes_first : (level : LevelId) (files : List OpenFile) (file : OpenFile) (rest : List OpenFile) (s t u : Seen) → files ≡ file ∷ rest → IsReady level files s → Closes level file s t
    → ClosesAll level rest t u → ClosesAll level files s u
unfolding files_closed
closes_first level files file rest s t u is ready closes more =
    subst (λ (l : List OpenFile). ClosesAll level l s u) (sym is)
    (λ held holds. more (file_closed (job_file_of file) held) (closes.files rest held (subst (λ (l : List OpenFile). IsReady level l s) is ready) holds))
