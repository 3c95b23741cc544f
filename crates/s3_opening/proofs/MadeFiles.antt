-- A file is made: what is held of the others, and of it.
use Rattle.std.proofs.Common.{◌≡◌, ◌≤◌, ◌+◌, ℕ, zero, suc, inl, inr, Bool, true, false, List, [], ◌∷◌, length, replicate, arith, refl, ap, sym, ◌∙◌, subst}
use Rattle.std.specs.Prelude.{slice_get, Option, Some, None, Result, Ok, Err, OnOk, if◌then◌else◌}
use Rattle.std.specs.List.{All, Contains, list_any, position_from}
use Rattle.std.proofs.lemmas.Bool.{true≢false}
use Rattle.s3_cards.specs.declared.levels.LevelId.{LevelId}
use Rattle.s3_cards.specs.declared.name.Name.{Name}
use Rattle.s3_cards.specs.Names.{same_name}
use Rattle.s3_cards.proofs.NameLemmas.{same_name-self, same_name-equal}
use Rattle.s3_store.specs.Inner.Failures.{failed_transfers}
use Rattle.s3_store.specs.Inner.State.{PoolState, ChangesWithin, KeepsInStep}
use Rattle.s3_store.specs.declared.sector_fault.SectorFault.{SectorFault}
use Rattle.s3_store.specs.declared.sector_fault.SectorFault.TheVariants.{Device, NoMemory}
use Rattle.s3_store.specs.declared.stretch.Stretch.{Stretch}
use Rattle.s3_store.proofs.Frames.{step_from_within}
use Rattle.s3_slots.specs.Header.{region_of}
use Rattle.s3_cards.specs.declared.ebcdic.TheConstants.{BLANK}
use Rattle.s3_files.proofs.Rooms.{of_pack_room}
use Rattle.s3_labels.specs.Inner.Written.{IsWritten}
use Rattle.s3_slots.specs.Inner.Kept.{AreKept, IsOfPack}
use Rattle.s3_slots.specs.Labels.{is_direct, sectors_of}
use Rattle.s3_slots.specs.Making.{capacity_of, made, new_label}
use Rattle.s3_slots.specs.Inner.Making.{IsNewFile}
use Rattle.s3_slots.specs.Slots.{bears, is_damaged_under, standing, standing_with, slot_at}
use Rattle.s3_slots.specs.Stretches.{IsIn}
use Rattle.s3_slots.specs.declared.header.Header.{Header}
use Rattle.s3_slots.specs.declared.label.FileLabel.{FileLabel}
use Rattle.s3_slots.specs.declared.making.LabelFault.{LabelFault}
use Rattle.s3_slots.specs.declared.making.NewFile.{NewFile}
use Rattle.s3_slots.specs.declared.slot.Slot.{Slot}
use Rattle.s3_slots.specs.declared.slot.Slot.TheVariants.{Free, Damaged, Sound}
use Rattle.s3_slots.specs.declared.slot.Standing.TheVariants.{Present}
use Rattle.s3_slots.proofs.Judging.{made_kept}
use Rattle.s3_slots.proofs.Keeping.{formed_parts, extents_inside}
use Rattle.s3_slots.proofs.Runs.{none_at}
use Rattle.s3_labels.specs.Inner.Areas.{Areas, region_at, slots_at, with_slots, AreFilled, IsOfDirect, IsOfMake, IsReady as IsPackReady, failed_change}
use Rattle.s3_labels.specs.Inner.Labelled.{KeepsSaid}
use Rattle.s3_labels.specs.declared.fault.ChangeFault.{ChangeFault}
use Rattle.s3_labels.specs.declared.fault.ChangeFault.TheVariants.{Sectors as SectorsFailed}
use Rattle.s3_labels.specs.Areas.{area_of}
use Rattle.s3_labels.proofs.Regions.{ready_region}
use Rattle.s3_job_files.specs.declared.file.OpenFile.{OpenFile}
use Rattle.s3_job_files.specs.Kept.{Kept, kept_on, nothing_kept}
use Rattle.s3_job_files.specs.Files.{Files, area_by}
use Rattle.s3_job_files.specs.Inner.Packs.{LeavesPack}
use Rattle.s3_job_files.specs.Inner.Holds.{seen, slots_by, Stands, IsReady, IsOutOfReach, HoldsRecords, HoldsFiles, is_open}
use Rattle.s3_job_files.proofs.Frames.{SameAt, same_kept, same_records, same_of}
use Rattle.s3_job_files.proofs.Packs.{header_kept, masters_kept, not_label, pack_closed}
use Rattle.s3_job_files.proofs.Putting.{differ_sym, pack_over, same_apart, same_masters}
use Rattle.s3_job_files.proofs.Lists.{found_passes}
use Rattle.s3_opening.specs.Opening.{first_kept, with_new}
use Rattle.s3_opening.specs.Inner.Starts.{IsOpened}
use Rattle.s3_opening.specs.Inner.Starting.{IsMade}
use Rattle.s3_opening.proofs.Made.{found_at, made_else}
use Rattle.s3_opening.proofs.NewKept.{new_kept}

-- ---- the slot of a valid label
none_before : (t : Slot → Bool) (k : ℕ) (slots : List Slot) (i : ℕ) (slot : Slot) → position_from t k slots ≡ None → slice_get slots i ≡ Some slot → t slot ≡ false
none_before t k [] i slot h there = absurd cc
none_before t k (first ∷ more) zero slot h there = let same : first ≡ slot = cc in by (t first) refl h same
  where
    by : (b : Bool) → t first ≡ b → (if b then Some k else position_from t (k + 1) more) ≡ None → first ≡ slot → t slot ≡ false
    by true e h same = absurd cc
    by false e h same = sym (ap t same) ∙ e
none_before t k (first ∷ more) (suc i) slot h there = by (t first) h (none_before t (k + 1) more i slot)
  where
    by : (b : Bool) → (if b then Some k else position_from t (k + 1) more) ≡ None → (position_from t (k + 1) more ≡ None → slice_get more i ≡ Some slot → t slot ≡ false) → t slot ≡ false
    by true h go = absurd cc
    by false h go = go h there

only_sound : (name : Name) (slot : Slot) (at : ℕ) (slots : List Slot) (i : ℕ) (label : FileLabel) (region : Stretch) → AreKept region slots → slice_get slots i ≡ Some (Sound label) → label.name ≡ name
    → slice_get slots at ≡ Some slot → bears name slot ≡ true → slice_get slots at ≡ Some (Sound label)
only_sound name Free at slots i label region kept here named there is = absurd (true≢false (sym is))
only_sound name (Damaged other) at slots i label region kept here named there is = absurd (true≢false (sym is))
only_sound name (Sound first) at slots i label region kept here named there is =
    let same : at ≡ i = kept.named at i first label there here (same_name-equal first.name name is ∙ sym named) in
    ap (slice_get slots) same ∙ here

pub sound_stands : (region : Stretch) (slots : List Slot) (i : ℕ) (label : FileLabel) → AreKept region slots → slice_get slots i ≡ Some (Sound label) → standing label.name slots ≡ Present label
unfolding standing
sound_stands region slots i label kept here = by (position_from (bears label.name) 0 slots) refl
  where
    by : (place : Option ℕ) → position_from (bears label.name) 0 slots ≡ place → standing_with (list_any (is_damaged_under label.name) slots) (slot_at slots place) ≡ Present label
    by None e = absurd (true≢false (sym (same_name-self label.name) ∙ none_before (bears label.name) 0 slots i (Sound label) e here))
    by (Some at) e =
        let found = found_at (bears label.name) 0 slots at e in
        let same : at ≡ found.place = omega (arith, found.is) in
        let there : slice_get slots at ≡ Some found.element = ap (slice_get slots) same ∙ found.there in
        ap (standing_with (list_any (is_damaged_under label.name) slots))
        (only_sound label.name found.element at slots i label region kept here refl there (found_passes (bears label.name) slots at found.element e there))

-- ---- what a make changes
-- the direct file of the label is the one that is found for it
direct_is : (region : Stretch) (slots : List Slot) (i : ℕ) (label : FileLabel) (name : Name) (n : ℕ) → AreKept region slots → slice_get slots i ≡ Some (Sound label) → label.name ≡ name
    → IsOfDirect slots name n → Contains (sectors_of label) n
direct_is region slots i label name n kept here named direct =
    let same : direct.slot ≡ i = kept.named direct.slot i direct.label label direct.there here (direct.named ∙ sym named) in
    let both : Some (Sound direct.label) ≡ Some (Sound label) = sym direct.there ∙ ap (slice_get slots) same ∙ here in
    let is : direct.label ≡ label = cc in
    subst (λ (l : FileLabel). Contains (sectors_of l) n) is direct.has.1

pub made_same : (level : LevelId) (new : NewFile) (label : FileLabel) (i : ℕ) (region : Stretch) (slots : List Slot) (came : Result (List Slot) LabelFault) (s t : PoolState) → came ≡ Ok slots
    → AreKept region slots → slice_get slots i ≡ Some (Sound label) → label.name ≡ new.name → ChangesWithin (IsOfMake (area_of level) new.name came) s t
    → (n : ℕ) → 168 ≤ n → ¬ Contains (sectors_of label) n → slice_get t.contents n ≡ slice_get s.contents n
made_same level new label i region slots came s t is kept here named within n high out =
    within.contents n (λ inside. elim (subst (λ r. IsOfMake (area_of level) new.name r n) is inside) [
      | inl a ↦ not_label level n (omega (arith, high)) a
      | inr direct ↦ out (direct_is region slots i label new.name n kept here named direct)
    ])

slot_inside : (region : Stretch) (slots : List Slot) (i : ℕ) (label : FileLabel) (n : ℕ) → AreKept region slots → slice_get slots i ≡ Some (Sound label) → Contains (sectors_of label) n → IsIn region n
unfolding sectors_of
slot_inside region slots i label n kept there inside = extents_inside region label.extents n (formed_parts region label (kept.formed i label there)).room inside

-- it spares what is out of the level's reach, refused or not
make_spares : (level : LevelId) (new : NewFile) (areas : Areas) (s t : PoolState) → IsPackReady areas s.contents → IsNewFile new
    → ChangesWithin (IsOfMake (area_of level) new.name (made areas.header.format (region_at level areas) areas.masters new (slots_at level areas))) s t
    → KeepsInStep (IsOutOfReach level areas.header) s t
make_spares level new areas s t pack proper within =
    by (made areas.header.format (region_at level areas) areas.masters new (slots_at level areas)) refl within
  where
    by : (came : Result (List Slot) LabelFault) → made areas.header.format (region_at level areas) areas.masters new (slots_at level areas) ≡ came
        → ChangesWithin (IsOfMake (area_of level) new.name came) s t → KeepsInStep (IsOutOfReach level areas.header) s t
    by (Err fault) is within = step_from_within (IsOfMake (area_of level) new.name (Err fault)) (IsOutOfReach level areas.header) s t (λ n kept inside. kept.labels inside) within
    by (Ok slots) is within =
        let kept_after : AreKept (region_at level areas) slots =
        made_kept areas.header.format (region_at level areas) areas.masters new (slots_at level areas) slots (ready_region level areas s.contents pack).whole proper (pack.own level) is in
        step_from_within (IsOfMake (area_of level) new.name (Ok slots)) (IsOutOfReach level areas.header) s t
        (λ n kept inside. elim inside [
          | inl a ↦ kept.labels a
          | inr direct ↦ kept.region (slot_inside (region_at level areas) slots direct.slot direct.label n kept_after direct.there direct.has.1)
        ]) within

-- ---- what is held of the others
module _ (level : LevelId) (new : NewFile) (label : FileLabel) (areas new_areas : Areas) (old fresh : List (List ℕ)) (made : IsMade level new label areas new_areas old fresh) where
  header_is : new_areas.header ≡ areas.header
  header_is = header_kept level areas new_areas made.alone

  masters_are : new_areas.masters ≡ areas.masters
  masters_are = masters_kept level areas new_areas made.alone

  name_is : label.name ≡ new.name
  unfolding new_label
  name_is = ap (λ (l : FileLabel). l.name) made.fresh_label

  before : IsPackReady new_areas old
  before = pack_over new_areas fresh old (sym made.count) made.ready

  others : (name : Name) → same_name new.name name ≡ false → standing name (slots_at level new_areas) ≡ standing name (slots_at level areas)
  others name differs = made_else areas.header.format (region_at level areas) areas.masters new (slots_at level areas) (slots_at level new_areas) name differs made.slots

  sound_by : (b : Bool) (one : FileLabel) → same_name new.name one.name ≡ false → standing one.name (slots_by b level areas) ≡ Present one → standing one.name (slots_by b level new_areas) ≡ Present one
  sound_by true one other is = ap (standing one.name) masters_are ∙ is
  sound_by false one other is = others one.name other ∙ is

  from_label : (name : Name) → same_name new.name name ≡ false → same_name name label.name ≡ false
  from_label name other = ap (same_name name) name_is ∙ differ_sym new.name name other

  unchanged : (b : Bool) (one : FileLabel) → same_name new.name one.name ≡ false → standing one.name (slots_by b level areas) ≡ Present one → All (SameAt old fresh) (sectors_of one)
  unchanged b one other is = same_apart b level new_areas old fresh one label before (sound_by b one other is) made.stands (from_label one.name other) made.same

  -- a valid label is still on the pack
  pub stands_still : (file : OpenFile) → same_name new.name file.label.name ≡ false → Stands level (seen areas old) file → Stands level (seen new_areas fresh) file
  stands_still file other stands = record {
    sound = sound_by file.is_master file.label other stands.sound;
    records = same_of old fresh file.label file.records (unchanged file.is_master file.label other stands.sound) stands.records;
    master = stands.master;
  }

  -- and its records are as they were
  pub holds_still : (file : OpenFile) (kept : Kept) → same_name new.name file.label.name ≡ false → Stands level (seen areas old) file → HoldsRecords old file kept → HoldsRecords fresh file kept
  holds_still file kept other stands held = record {
    records = held.records ∙ sym (same_records old fresh file.label file.records (unchanged file.is_master file.label other stands.sound) stands.records);
    good = held.good;
  }

  pub opened_still : (file : OpenFile) → same_name new.name file.label.name ≡ false → IsOpened level (seen areas old) file → IsOpened level (seen new_areas fresh) file
  opened_still file other opened = record {
    stands = stands_still file other opened.stands;
    holds = subst (HoldsRecords fresh file) (sym (same_kept old fresh file.label (unchanged file.is_master file.label other opened.stands.sound)))
        (holds_still file (kept_on file.label old) other opened.stands opened.holds);
  }

  module _ (items : List OpenFile) (unopened : list_any (λ (one : OpenFile). same_name one.label.name new.name) items ≡ false) (ready : IsReady level items (seen areas old)) where
    differs : (i : ℕ) (one : OpenFile) → slice_get items i ≡ Some one → same_name new.name one.label.name ≡ false
    differs i one there = differ_sym one.label.name new.name (none_at (λ (file : OpenFile). same_name file.label.name new.name) items i one unopened there)

    pub ready_still : IsReady level items (seen new_areas fresh)
    ready_still = record {
      pack = made.ready;
      files = record { stands = λ i one there. stands_still one (differs i one there) (ready.files.stands i one there); distinct = ready.files.distinct };
    }

    module _ (files : Files) (held : HoldsFiles level items (seen areas old) files) where
      own_kept : (one : FileLabel) (b : Bool) → same_name one.name new.name ≡ b → standing one.name (slots_at level new_areas) ≡ Present one → is_open one.name items ≡ false
          → (if b then first_kept new else files.own.kept one.name) ≡ kept_on one fresh
      own_kept one true same is closed =
          let both : Present label ≡ Present one = sym made.stands ∙ ap (λ n. standing n (slots_at level new_areas)) (name_is ∙ sym (same_name-equal one.name new.name same)) ∙ is in
          let here : label ≡ one = cc in
          sym made.kept ∙ ap (λ l. kept_on l fresh) here
      own_kept one false other is closed =
          let apart : same_name new.name one.name ≡ false = differ_sym one.name new.name other in
          let then_is : standing one.name (slots_at level areas) ≡ Present one = sym (others one.name apart) ∙ is in
          held.own_files one (ap (standing one.name) held.own.slots_of_area ∙ then_is) closed
          ∙ sym (same_kept old fresh one (unchanged false one apart then_is))

      kept_by : (b : Bool) (name : Name) → same_name new.name name ≡ false → (area_by b (with_new new (slots_at level new_areas) files)).kept name ≡ (area_by b files).kept name
      kept_by true name other = refl
      kept_by false name other = ap (λ (b : Bool). if b then first_kept new else files.own.kept name) (differ_sym new.name name other)

      pub made_files : HoldsFiles level items (seen new_areas fresh) (with_new new (slots_at level new_areas) files)
      made_files = record {
        format = held.format ∙ sym (ap (λ (h : Header). h.format) header_is);
        own = record { region_of_area = held.own.region_of_area ∙ sym (ap (region_of level) header_is); slots_of_area = refl };
        masters = record {
          region_of_area = held.masters.region_of_area ∙ sym (ap (λ (h : Header). h.masters) header_is);
          slots_of_area = held.masters.slots_of_area ∙ sym masters_are;
        };
        own_files = λ one is closed. own_kept one (same_name one.name new.name) refl is closed;
        master_files = λ one is closed. held.master_files one is closed
            ∙ sym (same_kept old fresh one (same_masters level new_areas old fresh one label before (ap (standing one.name) masters_are ∙ sym (ap (standing one.name) held.masters.slots_of_area) ∙ is) made.stands made.same));
        records = λ i one there.
            let other = differs i one there in
            subst (HoldsRecords fresh one) (sym (kept_by one.is_master one.label.name other)) (holds_still one ((area_by one.is_master files).kept one.label.name) other (ready.files.stands i one there) (held.records i one there));
      }

-- ---- what a make answers
-- the returned label is on the pack, with what a new file has
pub made_is : (level : LevelId) (new : NewFile) (label : FileLabel) (areas new_areas : Areas) (s t : PoolState) → IsPackReady new_areas t.contents
    → made areas.header.format (region_at level areas) areas.masters new (slots_at level areas) ≡ Ok (slots_at level new_areas) → new_areas ≡ with_slots level (slots_at level new_areas) areas
    → label ≡ new_label new label.extents → IsOfPack (length t.contents) label → IsWritten (area_of level) (slots_at level new_areas) t.contents label
    → (is_direct label.organization ≡ true → AreFilled BLANK (sectors_of label) t.contents)
    → ChangesWithin (IsOfMake (area_of level) new.name (made areas.header.format (region_at level areas) areas.masters new (slots_at level areas))) s t
    → IsMade level new label areas new_areas s.contents t.contents
unfolding new_label
made_is level new label areas new_areas s t ready ok alone label_is on_pack written blank within = record {
  slots = ok;
  alone = alone;
  ready = ready;
  count = within.count;
  on_pack = on_pack;
  fresh_label = label_is;
  stands = sound_stands (region_at level new_areas) (slots_at level new_areas) written.slot label (ready.own level) written.there;
  same = made_same level new label written.slot (region_at level new_areas) (slots_at level new_areas) (made areas.header.format (region_at level areas) areas.masters new (slots_at level areas)) s t
      ok (ready.own level) written.there (ap (λ (l : FileLabel). l.name) label_is) within;
  kept = new_kept new label t.contents label_is (of_pack_room (length t.contents) label on_pack) blank;
}

-- refused or not, it leaves the other level's as it was
pub make_leaves : {T : Type 0} {level : LevelId} {new : NewFile} {areas new_areas : Areas} {s t : PoolState} (result : Result T SectorFault) → IsPackReady areas s.contents → IsNewFile new → IsPackReady new_areas t.contents
    → new_areas ≡ with_slots level (slots_at level new_areas) areas
    → ChangesWithin (IsOfMake (area_of level) new.name (made areas.header.format (region_at level areas) areas.masters new (slots_at level areas))) s t
    → OnOk result (KeepsSaid level areas s.contents new_areas t.contents) → t.failures ≡ s.failures + failed_transfers result → LeavesPack level result areas new_areas s t
make_leaves {level = level} {new = new} {areas = areas} {s = s} {t = t} result before proper ready alone within says failures =
    pack_closed result ready alone (make_spares level new areas s t before proper within) says failures

-- where its sectors failed, so did as many transfers
pub make_failed : (T : Type 0) (fault : ChangeFault) (of_sectors : SectorFault) (s t : PoolState) → fault ≡ SectorsFailed of_sectors → t.failures ≡ s.failures + failed_change {T = T} (Err fault)
    → t.failures ≡ s.failures + failed_transfers {T = T} (Err of_sectors)
make_failed T fault of_sectors s t is failures = failures ∙ ap (λ n. s.failures + n) (ap (λ f. failed_change {T = T} (Err f)) is ∙ by of_sectors)
  where
    by : (stop : SectorFault) → failed_change {T = T} (Err (SectorsFailed stop)) ≡ failed_transfers {T = T} (Err stop)
    by Device = refl
    by NoMemory = refl

first_good : (new : NewFile) → (first_kept new).has_good_index ≡ true
first_good new = by (is_direct new.organization)
  where
    by : (b : Bool) → (let k : Kept = if b then record nothing_kept { records = replicate (capacity_of new) (replicate new.record_length BLANK) } else nothing_kept in k.has_good_index ≡ true)
    by true = refl
    by false = refl

-- its index is good
pub made_good : (level : LevelId) (new : NewFile) (label : FileLabel) (areas new_areas : Areas) (old fresh : List (List ℕ)) → IsMade level new label areas new_areas old fresh
    → (kept_on label fresh).has_good_index ≡ true
made_good level new label areas new_areas old fresh is = ap (λ (k : Kept). k.has_good_index) is.kept ∙ first_good new
