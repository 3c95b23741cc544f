-- Why a file isn't copied, as the calls within a copy say it.
use Rattle.std.proofs.Common.{◌≡◌, ℕ, ◌+◌, ◌<◌, Bool, true, false, List, [], ◌∷◌, length, slice_get, Option, Some, None, Result, Ok, Err, refl, sym, ap, ap₂, ◌∙◌, subst}
use Rattle.std.specs.Prelude.{IfErr}
use Rattle.std.specs.Result.{IsErrAnd}
use Rattle.std.specs.List.{list_any, position_from}
use Rattle.std.proofs.lemmas.Bool.{or_from}
use Rattle.s3_cards.specs.Names.{is_name}
use Rattle.s3_cards.specs.declared.name.Name.{Name}
use Rattle.s3_store.specs.declared.stretch.Stretch.{Stretch}
use Rattle.s3_slots.specs.Header.{mounted}
use Rattle.s3_slots.specs.Inner.Making.{refusal}
use Rattle.s3_slots.specs.Making.{dropped, made, tracks_of}
use Rattle.s3_slots.specs.Placement.{free_slot, placed}
use Rattle.s3_slots.specs.Slots.{bears, is_damaged_under, slot_at, standing, standing_with}
use Rattle.s3_slots.specs.declared.header.Format.{Format}
use Rattle.s3_slots.specs.declared.label.FileLabel.{FileLabel}
use Rattle.s3_slots.specs.declared.making.LabelFault.{LabelFault}
use Rattle.s3_slots.specs.declared.making.LabelFault.TheVariants.{DamagedLabel, Master, NoSlot as NoFreeSlot, NoSpace, NotFound, Retained}
use Rattle.s3_slots.specs.declared.making.NewFile.{NewFile}
use Rattle.s3_slots.specs.declared.slot.Slot.{Slot}
use Rattle.s3_slots.specs.declared.slot.Slot.TheVariants.{Damaged as DamagedSlot, Free, Sound}
use Rattle.s3_slots.specs.declared.slot.Standing.{Standing}
use Rattle.s3_slots.specs.declared.slot.Standing.TheVariants.{Absent, Blocked, Present}
use Rattle.s3_labels.specs.Inner.Areas.{Areas, IsRefusal, slots_in}
use Rattle.s3_labels.specs.declared.fault.Refusal.{Refusal}
use Rattle.s3_labels.specs.declared.fault.Refusal.TheVariants.{BadPack, Sectors}
use Rattle.s3_pack_check.specs.Inner.Damages.{first_damaged, is_damaged}
use Rattle.s3_pack_check.specs.Inner.Wrongs.{region_in}
use Rattle.s3_pack_care.specs.Inner.Copied.{Forbids, IsForbidden, IsRoom, IsSource, RefusesCopy, RefusesRoom, RefusesSource, copied_label, masters_beside, tracks_in}
use Rattle.s3_pack_care.specs.Inner.Kept.{AreOn, IsMountRefusal, IsMounted, fault_of}
use Rattle.s3_pack_care.specs.declared.fault.CareFault.{CareFault}
use Rattle.s3_pack_care.specs.declared.fault.CareFault.TheVariants.{Damaged, Exists, Label, Mount, NoFile, NoMemory, NoName, NoSlot, Permanent, SourceLabel, SourceMount, Uncovers}
use Rattle.s3_pack_care.proofs.Made.{IsUnmade, made_refused, made_room}
use Rattle.s3_pack_care.proofs.Placed.{nowhere}

-- what is so of the areas of a mounted pack
pub are_on : (areas : Areas) (contents : List (List ℕ)) (are : Areas → Type 0) → IsMounted areas contents → are areas → AreOn contents are
are_on areas contents are is so = record { header = areas.header; mounts = is.mounts; so = subst are is.judged so }

-- a mount's refusal
pub mount_refused : (contents : List (List ℕ)) (refusal : Refusal) (fault : CareFault) → IsRefusal (mounted contents) refusal → fault ≡ fault_of refusal → IsMountRefusal contents fault
mount_refused contents (BadPack reason) fault h is = subst (IsMountRefusal contents) (sym is) h
mount_refused contents (Sectors reason) fault h is = subst (IsMountRefusal contents) (sym is) tt

-- ---- the file that is read
stands_so : (area : ℕ) (areas : Areas) (name : Name) (now : List Slot) (found stands : Standing) → now ≡ slots_in area areas → found ≡ standing name now → found ≡ stands → standing name (slots_in area areas) ≡ stands
stands_so area areas name now found stands slots is found_is = sym (is ∙ ap (standing name) slots) ∙ found_is

pub source_absent : (area : ℕ) (areas : Areas) (contents : List (List ℕ)) (name : Name) (now : List Slot) (found : Standing) → now ≡ slots_in area areas → found ≡ standing name now → found ≡ Absent → IsMounted areas contents
    → RefusesSource area name contents (SourceLabel NotFound)
source_absent area areas contents name now found slots is found_is mounts =
    are_on areas contents (λ a. refusal (standing name (slots_in area a)) ≡ Some NotFound) mounts (ap refusal (stands_so area areas name now found Absent slots is found_is))

pub source_blocked : (area : ℕ) (areas : Areas) (contents : List (List ℕ)) (name : Name) (now : List Slot) (found : Standing) → now ≡ slots_in area areas → found ≡ standing name now → found ≡ Blocked → IsMounted areas contents
    → RefusesSource area name contents (SourceLabel DamagedLabel)
source_blocked area areas contents name now found slots is found_is mounts =
    are_on areas contents (λ a. refusal (standing name (slots_in area a)) ≡ Some DamagedLabel) mounts (ap refusal (stands_so area areas name now found Blocked slots is found_is))

-- ---- the slot that has the name of a copy
pub exists_there : (area : ℕ) (areas : Areas) (name : Name) (source : FileLabel) (now : List Slot) (found : Standing) (label : FileLabel) → now ≡ slots_in area areas → found ≡ standing name now → found ≡ Present label
    → RefusesRoom area name source areas Exists
exists_there area areas name source now found label slots is found_is = (label, stands_so area areas name now found (Present label) slots is found_is)

under_is : (name : Name) (slot : Slot) → is_damaged slot ≡ false → is_damaged_under name slot ≡ false
under_is name Free h = refl
under_is name (DamagedSlot other) h = absurd cc
under_is name (Sound label) h = refl

none_under : (name : Name) (k : ℕ) (slots : List Slot) → position_from is_damaged k slots ≡ None → list_any (is_damaged_under name) slots ≡ false
none_under name k [] h = refl
none_under name k (x ∷ slots) h =
    let so = nowhere is_damaged k x slots h in
    or_from (is_damaged_under name x) (list_any (is_damaged_under name) slots) (under_is name x so.0) (none_under name (k + 1) slots so.1)

not_blocked : (slot : Option Slot) → standing_with false slot ≡ Blocked → ⊥
not_blocked None h = absurd cc
not_blocked (Some Free) h = absurd cc
not_blocked (Some (DamagedSlot name)) h = absurd cc
not_blocked (Some (Sound label)) h = absurd cc

whole_unblocked : (name : Name) (slots : List Slot) → first_damaged slots ≡ None → standing name slots ≡ Blocked → ⊥
unfolding standing
whole_unblocked name slots whole h =
    not_blocked (slot_at slots (position_from (bears name) 0 slots)) (sym (ap (λ b. standing_with b (slot_at slots (position_from (bears name) 0 slots))) (none_under name 0 slots whole)) ∙ h)

-- where no slot is damaged no label is blocked
pub unblocked : (area : ℕ) (areas : Areas) (name : Name) (now : List Slot) (found : Standing) → now ≡ slots_in area areas → found ≡ standing name now → found ≡ Blocked → first_damaged (slots_in area areas) ≡ None
    → standing name (slots_in area areas) ≡ Absent
unblocked area areas name now found slots is found_is whole = absurd (whole_unblocked name (slots_in area areas) whole (stands_so area areas name now found Blocked slots is found_is))

-- ---- the room that a make finds
module _ (area : ℕ) (name : Name) (source : FileLabel) (areas : Areas) (format : Format) (region : Stretch) (masters slots : List Slot) (new : NewFile) (format_is : format ≡ areas.header.format) (region_is : region ≡ region_in area areas)
    (masters_are : masters ≡ masters_beside area areas) (slots_are : slots ≡ slots_in area areas) (named : new.name ≡ name) (tracks : tracks_of new ≡ tracks_in source) (absent : standing name (slots_in area areas) ≡ Absent) where
  same_placed : placed format region slots (tracks_of new) ≡ placed areas.header.format (region_in area areas) (slots_in area areas) (tracks_in source)
  same_placed =
      ap (λ f. placed f region slots (tracks_of new)) format_is ∙ ap (λ r. placed areas.header.format r slots (tracks_of new)) region_is
      ∙ ap₂ (λ s n. placed areas.header.format (region_in area areas) s n) slots_are tracks

  same_masters : list_any (bears new.name) masters ≡ list_any (bears name) (masters_beside area areas)
  same_masters = ap₂ (λ n m. list_any (bears n) m) named masters_are

  absent_there : standing new.name slots ≡ Absent
  absent_there = ap₂ standing named slots_are ∙ absent

  pub room_is : (after : List Slot) (at slot : ℕ) (made_label label : FileLabel) → first_damaged (slots_in area areas) ≡ None → made format region masters new slots ≡ Ok after → at < length slots
      → free_slot (dropped new.name slots) ≡ Some at → slice_get after at ≡ Some (Sound made_label) → slot ≡ at → label ≡ copied_label name source made_label.extents → IsRoom area name source areas slot label
  room_is after at slot made_label label whole is within free there slot_is label_is =
      let so = made_room format region masters new slots after at made_label absent_there is within free there in
      let extents : label.extents ≡ made_label.extents = ap (λ (l : FileLabel). l.extents) label_is in
      record {
        undamaged = whole;
        absent = absent;
        unmastered = sym same_masters ∙ so.unmastered;
        free = sym (ap free_slot slots_are) ∙ so.free ∙ ap Some (sym slot_is);
        lies = sym same_placed ∙ so.room ∙ ap Some (sym extents);
        labelled = label_is ∙ ap (copied_label name source) (sym extents);
      }

  forbids : (fault : LabelFault) → IsUnmade format region masters new slots fault → RefusesRoom area name source areas (Label fault)
  forbids Master h = sym same_masters ∙ h
  forbids NoFreeSlot h = sym (ap free_slot slots_are) ∙ h
  forbids NoSpace h = sym same_placed ∙ h
  forbids NotFound h = absurd h
  forbids DamagedLabel h = absurd h
  forbids Retained h = absurd h

  pub room_refused : (fault : LabelFault) → made format region masters new slots ≡ Err fault → RefusesRoom area name source areas (Label fault)
  room_refused fault h = forbids fault (made_refused format region masters new slots fault absent_there h)

-- ---- a copy
module _ (from_area : ℕ) (name : Name) (area : ℕ) (new_name : Name) (from old : List (List ℕ)) where
  pub source_refuses : (fault : CareFault) → RefusesSource from_area name from fault → RefusesCopy from_area name area new_name from old fault
  source_refuses (SourceMount fault) h = h
  source_refuses (SourceLabel fault) h = h
  source_refuses NoMemory h = tt
  source_refuses (Mount fault) h = absurd h
  source_refuses (Label fault) h = absurd h
  source_refuses NoFile h = absurd h
  source_refuses NoSlot h = absurd h
  source_refuses Permanent h = absurd h
  source_refuses Exists h = absurd h
  source_refuses (Damaged slot) h = absurd h
  source_refuses NoName h = absurd h
  source_refuses (Uncovers slot) h = absurd h

  pub mount_refuses : (begun : List (List ℕ)) (fault : CareFault) → begun ≡ old → IsMountRefusal begun fault → RefusesCopy from_area name area new_name from old fault
  mount_refuses begun (Mount fault) here h = sym (ap mounted here) ∙ h
  mount_refuses begun NoMemory here h = tt
  mount_refuses begun (SourceMount fault) here h = absurd h
  mount_refuses begun (SourceLabel fault) here h = absurd h
  mount_refuses begun (Label fault) here h = absurd h
  mount_refuses begun NoFile here h = absurd h
  mount_refuses begun NoSlot here h = absurd h
  mount_refuses begun Permanent here h = absurd h
  mount_refuses begun Exists here h = absurd h
  mount_refuses begun (Damaged slot) here h = absurd h
  mount_refuses begun NoName here h = absurd h
  mount_refuses begun (Uncovers slot) here h = absurd h

  pub memory_refuses : (fault : CareFault) → fault ≡ NoMemory → RefusesCopy from_area name area new_name from old fault
  memory_refuses fault h = subst (RefusesCopy from_area name area new_name from old) (sym h) tt

  module _ (source : FileLabel) (bytes : List ℕ) (areas : Areas) (begun : List (List ℕ)) (here : begun ≡ old) (is : IsMounted areas begun) (read : IsSource from_area name source bytes from) where
    mounted_here : IsMounted areas old
    mounted_here = subst (λ (s : List (List ℕ)). IsMounted areas s) here is

    forbidden : (fault : CareFault) → Forbids area new_name source areas fault → IsForbidden from_area name area new_name from old fault
    forbidden fault h = record { source = source; read = read.mounts; forbids = are_on areas old (λ a. Forbids area new_name source a fault) mounted_here h }

    pub room_refuses : (fault : CareFault) → RefusesRoom area new_name source areas fault → RefusesCopy from_area name area new_name from old fault
    room_refuses NoMemory h = tt
    room_refuses NoName h = forbidden NoName h
    room_refuses (Damaged slot) h = forbidden (Damaged slot) h
    room_refuses Exists h = forbidden Exists h
    room_refuses (Label fault) h = forbidden (Label fault) h
    room_refuses (Mount fault) h = absurd h
    room_refuses (SourceMount fault) h = absurd h
    room_refuses (SourceLabel fault) h = absurd h
    room_refuses NoFile h = absurd h
    room_refuses NoSlot h = absurd h
    room_refuses Permanent h = absurd h
    room_refuses (Uncovers slot) h = absurd h

-- ---- what is forbidden isn't done
some_none : {A : Type 0} (o : Option A) (x : A) → o ≡ None → o ≡ Some x → ⊥
some_none o x h is = let e : None ≡ Some x = sym h ∙ is in absurd cc

not_both : (b : Bool) → b ≡ true → b ≡ false → ⊥
not_both b h is = let e : true ≡ false = sym h ∙ is in absurd cc

absent_present : (stands : Standing) (label : FileLabel) → stands ≡ Absent → stands ≡ Present label → ⊥
absent_present stands label h is = let e : Absent ≡ Present label = sym h ∙ is in absurd cc

pub allowed : (area slot : ℕ) (name : Name) (source label : FileLabel) (areas : Areas) → is_name name.codes ≡ true → IsRoom area name source areas slot label → (fault : CareFault) → Forbids area name source areas fault → ⊥
allowed area slot name source label areas named room NoName h = not_both (is_name name.codes) named h
allowed area slot name source label areas named room (Damaged n) h = some_none (first_damaged (slots_in area areas)) n room.undamaged h
allowed area slot name source label areas named room Exists h = absent_present (standing name (slots_in area areas)) h.0 room.absent h.1
allowed area slot name source label areas named room (Label Master) h = not_both (list_any (bears name) (masters_beside area areas)) h room.unmastered
allowed area slot name source label areas named room (Label NoFreeSlot) h = some_none (free_slot (slots_in area areas)) slot h room.free
allowed area slot name source label areas named room (Label NoSpace) h =
    some_none (placed areas.header.format (region_in area areas) (slots_in area areas) (tracks_in source)) label.extents h room.lies
allowed area slot name source label areas named room (Label NotFound) h = h
allowed area slot name source label areas named room (Label DamagedLabel) h = h
allowed area slot name source label areas named room (Label Retained) h = h
allowed area slot name source label areas named room (Mount fault) h = h
allowed area slot name source label areas named room (SourceMount fault) h = h
allowed area slot name source label areas named room (SourceLabel fault) h = h
allowed area slot name source label areas named room NoMemory h = h
allowed area slot name source label areas named room NoFile h = h
allowed area slot name source label areas named room NoSlot h = h
allowed area slot name source label areas named room Permanent h = h
allowed area slot name source label areas named room (Uncovers n) h = h

-- a call hands on the fault of another one
pub handed_on : {T : Type 0} (P : CareFault → Type 0) (result : Result T CareFault) (fault : CareFault) → IsErrAnd result (λ f. f ≡ fault) → P fault → IfErr result P
handed_on P (Ok x) fault gives h = tt
handed_on P (Err f) fault gives h = subst P (sym gives) h
