-- A pack without a file, by its bytes.
use Rattle.std.specs.Bool.{⊤}
use Rattle.std.proofs.Common.{◌&&◌, not, Bool, true, false, ◌+◌, ◌*◌, ◌/◌, ◌%◌, Err, slice_get, ◌≡◌, ℕ, ◌<◌, ◌≤◌, List, length, replicate, Some, Ok, sym, ap, ◌∙◌, subst, arith}
use Rattle.s3_store.specs.Inner.Bytes.{with_piece}
use Rattle.s3_slots.specs.Header.{mounted}
use Rattle.s3_slots.specs.Placement.{is_free}
use Rattle.s3_slots.specs.Slots.{labels_at, slot_bytes}
use Rattle.s3_slots.specs.declared.slot.Slot.{Slot}
use Rattle.s3_slots.specs.declared.header.Header.{Header}
use Rattle.s3_labels.specs.Contents.{contents_of}
use Rattle.s3_labels.specs.Inner.Areas.{Areas, areas_on, slots_in}
use Rattle.s3_pack_care.specs.Inner.Deleted.{IsChosen, IsFreed, MayFree, RefusesDelete, RefusesLabel, RefusesSlot, chosen_in, is_kept}
use Rattle.s3_pack_care.specs.Inner.Frames.{ChangesBytes, IsInChosen, IsInSlot}
use Rattle.s3_pack_care.specs.Inner.Kept.{AreOn, IsChanged, IsMountRefusal, IsMounted, IsWithout, RefusesWritten, with_slot}
use Rattle.s3_pack_care.specs.declared.deleting.Chosen.{Chosen}
use Rattle.s3_pack_care.specs.declared.deleting.Chosen.TheVariants.{Label, Slot as SlotNumber}
use Rattle.s3_pack_care.specs.declared.fault.CareFault.{CareFault}
use Rattle.s3_pack_care.specs.declared.fault.CareFault.TheVariants.{Damaged, Exists, Label as OfLabels, Mount, NoFile, NoMemory, NoName, NoSlot, Permanent, SourceLabel, SourceMount, Uncovers}
use Rattle.s3_pack_care.proofs.Frames.{IsSaved, changes_bytes}
use Rattle.s3_pack_care.proofs.Relabelled.{mounted_same, other_sector, without}

-- a mount finds one header
pub one_header : (contents : List (List ℕ)) (header other : Header) → mounted contents ≡ Ok header → mounted contents ≡ Ok other → header ≡ other
one_header contents header other a b =
    let one : Ok header ≡ mounted contents = sym a in
    let both : Ok header ≡ Ok other = one ∙ b in
    cc

-- a slot that was freed, and the bytes that changed
module _ (pack new : List ℕ) (chosen : Chosen) (area : ℕ) (after : List (List ℕ)) (area_in : area < 3) (freed : IsFreed area chosen (contents_of pack) after) (saved : IsSaved pack new after) where
  pub deleted_is : (header : Header) (slot : ℕ) → mounted (contents_of pack) ≡ Ok header → chosen_in chosen (slots_in area (areas_on header (contents_of pack))) ≡ Some slot
      → IsWithout area slot header (contents_of pack) (contents_of new)
  deleted_is header slot mounts chosen_at =
      let is_header : freed.header ≡ header = one_header (contents_of pack) freed.header header freed.mounts mounts in
      let both : Some freed.slot ≡ Some slot = sym freed.is ∙ ap (λ (h : Header). chosen_in chosen (slots_in area (areas_on h (contents_of pack)))) is_header ∙ chosen_at in
      let is_slot : freed.slot ≡ slot = cc in
      let base : IsWithout area freed.slot freed.header (contents_of pack) after = without area freed.slot freed.header (contents_of pack) after area_in freed.slot_in freed.mounts freed.relabelled in
      subst (λ (n : List (List ℕ)). IsWithout area slot header (contents_of pack) n) (sym saved.seen)
      (subst (λ (h : Header). IsWithout area slot h (contents_of pack) after) is_header
      (subst (λ (s : ℕ). IsWithout area s freed.header (contents_of pack) after) is_slot base))

  pub deleted_only : ChangesBytes (IsInChosen area chosen (contents_of pack)) pack new
  deleted_only =
      changes_bytes pack new after saved area (λ i. i ≡ freed.slot) (λ n. ⊥) (IsInChosen area chosen (contents_of pack))
      (λ i few differ. freed.relabelled.labels area i (record { area_in = area_in; slot_in = few; other = λ _ e. differ e }))
      (λ n out none. freed.relabelled.sectors n (λ e. let small = freed.slot_in in out (omega (arith, e, small), omega (arith, e, small))))
      (λ i k e within. record {
        header = freed.header;
        mounts = freed.mounts;
        slot = freed.slot;
        is = freed.is;
        at = subst (λ j. IsInSlot area j k) e within;
      })
      (λ k h. absurd h)

-- ---- when nothing is deleted
not_both : (b : Bool) → b ≡ true → b ≡ false → ⊥
not_both b h is = let e : true ≡ false = sym h ∙ is in absurd cc

pub may_go : (slot : Slot) (bytes : List ℕ) (meant : Bool) → is_free slot ≡ false → is_kept slot bytes && not meant ≡ false → MayFree slot bytes meant
may_go slot bytes meant used goes NoFile h = not_both (is_free slot) h used
may_go slot bytes meant used goes Permanent h = not_both (is_kept slot bytes && not meant) h goes
may_go slot bytes meant used goes (Mount fault) h = h
may_go slot bytes meant used goes NoMemory h = h
may_go slot bytes meant used goes (OfLabels fault) h = h
may_go slot bytes meant used goes NoSlot h = h
may_go slot bytes meant used goes (SourceMount fault) h = h
may_go slot bytes meant used goes (SourceLabel fault) h = h
may_go slot bytes meant used goes Exists h = h
may_go slot bytes meant used goes (Damaged other) h = h
may_go slot bytes meant used goes NoName h = h
may_go slot bytes meant used goes (Uncovers other) h = h

module _ (area : ℕ) (chosen : Chosen) (meant : Bool) (old : List (List ℕ)) where
  pub mount_refuses : (begun : List (List ℕ)) (fault : CareFault) → begun ≡ old → IsMountRefusal begun fault → RefusesDelete area chosen meant old fault
  mount_refuses begun (Mount fault) here h = sym (ap mounted here) ∙ h
  mount_refuses begun NoMemory here h = tt
  mount_refuses begun (SourceMount fault) here h = absurd h
  mount_refuses begun (SourceLabel fault) here h = absurd h
  mount_refuses begun (OfLabels fault) here h = absurd h
  mount_refuses begun NoFile here h = absurd h
  mount_refuses begun NoSlot here h = absurd h
  mount_refuses begun Permanent here h = absurd h
  mount_refuses begun Exists here h = absurd h
  mount_refuses begun (Damaged slot) here h = absurd h
  mount_refuses begun NoName here h = absurd h
  mount_refuses begun (Uncovers slot) here h = absurd h

  pub memory_refuses : (fault : CareFault) → fault ≡ NoMemory → RefusesDelete area chosen meant old fault
  memory_refuses fault h = subst (RefusesDelete area chosen meant old) (sym h) tt

  module _ (areas : Areas) (begun : List (List ℕ)) (here : begun ≡ old) (is : IsMounted areas begun) where
    on : (are : Areas → Type 0) → are areas → AreOn old are
    on are so = record { header = areas.header; mounts = sym (ap mounted here) ∙ is.mounts; so = subst are (is.judged ∙ ap (areas_on areas.header) here) so }

    pub chosen_so : (slot : ℕ) (found : Slot) (bytes : List ℕ) (refuses : Slot → List ℕ → Type 0) → chosen_in chosen (slots_in area areas) ≡ Some slot → slice_get (slots_in area areas) slot ≡ Some found → bytes ≡ slot_bytes area begun slot
        → refuses found bytes → IsChosen area chosen old refuses
    chosen_so slot found bytes refuses is_slot there read so =
        let same : areas ≡ areas_on areas.header old = is.judged ∙ ap (areas_on areas.header) here in
        record {
          header = areas.header;
          mounts = sym (ap mounted here) ∙ is.mounts;
          slot = slot;
          is = sym (ap (λ (a : Areas). chosen_in chosen (slots_in area a)) same) ∙ is_slot;
          found = found;
          there = sym (ap (λ (a : Areas). slice_get (slots_in area a) slot) same) ∙ there;
          so = subst (refuses found) (read ∙ ap (λ c. slot_bytes area c slot) here) so;
        }

    pub slot_refuses : (slot : ℕ) (found : Slot) (bytes : List ℕ) (fault : CareFault) → chosen_in chosen (slots_in area areas) ≡ Some slot → slice_get (slots_in area areas) slot ≡ Some found → bytes ≡ slot_bytes area begun slot
        → RefusesSlot found bytes meant fault → RefusesDelete area chosen meant old fault
    slot_refuses slot found bytes NoFile is_slot there read h = chosen_so slot found bytes (λ s b. RefusesSlot s b meant NoFile) is_slot there read h
    slot_refuses slot found bytes Permanent is_slot there read h = chosen_so slot found bytes (λ s b. RefusesSlot s b meant Permanent) is_slot there read h
    slot_refuses slot found bytes NoMemory is_slot there read h = absurd h
    slot_refuses slot found bytes (Uncovers other) is_slot there read h = absurd h
    slot_refuses slot found bytes (Mount fault) is_slot there read h = absurd h
    slot_refuses slot found bytes (SourceMount fault) is_slot there read h = absurd h
    slot_refuses slot found bytes (SourceLabel fault) is_slot there read h = absurd h
    slot_refuses slot found bytes (OfLabels fault) is_slot there read h = absurd h
    slot_refuses slot found bytes NoSlot is_slot there read h = absurd h
    slot_refuses slot found bytes Exists is_slot there read h = absurd h
    slot_refuses slot found bytes (Damaged other) is_slot there read h = absurd h
    slot_refuses slot found bytes NoName is_slot there read h = absurd h

    pub trial_refuses : (slot : ℕ) (store : List (List ℕ)) (fault : CareFault) → chosen_in chosen (slots_in area areas) ≡ Some slot → store ≡ begun → RefusesWritten area slot (replicate 64 0) areas.header store fault
        → RefusesDelete area chosen meant old fault
    trial_refuses slot store (Uncovers other) is_slot same h = record {
      header = areas.header;
      mounts = sym (ap mounted here) ∙ is.mounts;
      slot = slot;
      is = sym (ap (λ (a : Areas). chosen_in chosen (slots_in area a)) (is.judged ∙ ap (areas_on areas.header) here)) ∙ is_slot;
      so = subst (λ (s : List (List ℕ)). IsChanged area slot (areas_on areas.header s) (areas_on areas.header (with_slot area slot (replicate 64 0) s)) other) (same ∙ here) h;
    }
    trial_refuses slot store NoMemory is_slot same h = tt
    trial_refuses slot store (Mount fault) is_slot same h = absurd h
    trial_refuses slot store (SourceMount fault) is_slot same h = absurd h
    trial_refuses slot store (SourceLabel fault) is_slot same h = absurd h
    trial_refuses slot store (OfLabels fault) is_slot same h = absurd h
    trial_refuses slot store NoFile is_slot same h = absurd h
    trial_refuses slot store NoSlot is_slot same h = absurd h
    trial_refuses slot store Permanent is_slot same h = absurd h
    trial_refuses slot store Exists is_slot same h = absurd h
    trial_refuses slot store (Damaged other) is_slot same h = absurd h
    trial_refuses slot store NoName is_slot same h = absurd h

-- only the label and the number can be wrong with what is meant
abbrev IsOfChoice : CareFault → Type 0
IsOfChoice (OfLabels fault) = ⊤
IsOfChoice NoSlot = ⊤
IsOfChoice _ = ⊥

no_other : (chosen : Chosen) (slots : List Slot) (fault : CareFault) → RefusesLabel chosen slots fault → IsOfChoice fault
no_other (Label name) slots (OfLabels fault) h = tt
no_other (Label name) slots NoSlot h = absurd h
no_other (Label name) slots (Mount fault) h = absurd h
no_other (Label name) slots NoMemory h = absurd h
no_other (Label name) slots NoFile h = absurd h
no_other (Label name) slots Permanent h = absurd h
no_other (Label name) slots (SourceMount fault) h = absurd h
no_other (Label name) slots (SourceLabel fault) h = absurd h
no_other (Label name) slots Exists h = absurd h
no_other (Label name) slots (Damaged other) h = absurd h
no_other (Label name) slots NoName h = absurd h
no_other (Label name) slots (Uncovers other) h = absurd h
no_other (SlotNumber slot) slots NoSlot h = tt
no_other (SlotNumber slot) slots (OfLabels fault) h = absurd h
no_other (SlotNumber slot) slots (Mount fault) h = absurd h
no_other (SlotNumber slot) slots NoMemory h = absurd h
no_other (SlotNumber slot) slots NoFile h = absurd h
no_other (SlotNumber slot) slots Permanent h = absurd h
no_other (SlotNumber slot) slots (SourceMount fault) h = absurd h
no_other (SlotNumber slot) slots (SourceLabel fault) h = absurd h
no_other (SlotNumber slot) slots Exists h = absurd h
no_other (SlotNumber slot) slots (Damaged other) h = absurd h
no_other (SlotNumber slot) slots NoName h = absurd h
no_other (SlotNumber slot) slots (Uncovers other) h = absurd h

module _ (area : ℕ) (chosen : Chosen) (meant : Bool) (old : List (List ℕ)) (areas : Areas) (begun : List (List ℕ)) (here : begun ≡ old) (is : IsMounted areas begun) where
  by_choice : (fault : CareFault) → IsOfChoice fault → RefusesLabel chosen (slots_in area areas) fault → RefusesDelete area chosen meant old fault
  by_choice (OfLabels fault) one h = on area chosen meant old areas begun here is (λ a. RefusesLabel chosen (slots_in area a) (OfLabels fault)) h
  by_choice NoSlot one h = on area chosen meant old areas begun here is (λ a. RefusesLabel chosen (slots_in area a) NoSlot) h
  by_choice (Mount fault) one h = absurd one
  by_choice NoMemory one h = absurd one
  by_choice NoFile one h = absurd one
  by_choice Permanent one h = absurd one
  by_choice (SourceMount fault) one h = absurd one
  by_choice (SourceLabel fault) one h = absurd one
  by_choice Exists one h = absurd one
  by_choice (Damaged other) one h = absurd one
  by_choice NoName one h = absurd one
  by_choice (Uncovers other) one h = absurd one

  pub label_refuses : (fault : CareFault) → RefusesLabel chosen (slots_in area areas) fault → RefusesDelete area chosen meant old fault
  label_refuses fault h = by_choice fault (no_other chosen (slots_in area areas) fault h) h

-- ---- a trial
pub mount_tried : (area slot at : ℕ) (bytes : List ℕ) (areas : Areas) (old new : List (List ℕ)) (fault : CareFault) → area < 3 → slot < 32 → 25 ≤ length old → length bytes ≡ 64 → at ≡ slot % 4
    → new ≡ with_piece old (labels_at area + slot / 4) (at * 64) bytes → length new ≡ length old → IsMounted areas old → IsMountRefusal new fault → RefusesWritten area slot bytes areas.header old fault
mount_tried area slot at bytes areas old new NoMemory area_in slot_in room width e set count is h = tt
mount_tried area slot at bytes areas old new (Mount fault) area_in slot_in room width e set count is h =
    let same = mounted_same old new count (other_sector area slot at bytes old new area_in slot_in room width e set 0 (λ q. omega (arith, q))) in
    let both : Err fault ≡ Ok areas.header = sym h ∙ same ∙ is.mounts in
    absurd cc
mount_tried area slot at bytes areas old new (Uncovers other) area_in slot_in room width e set count is h = absurd h
mount_tried area slot at bytes areas old new (SourceMount fault) area_in slot_in room width e set count is h = absurd h
mount_tried area slot at bytes areas old new (SourceLabel fault) area_in slot_in room width e set count is h = absurd h
mount_tried area slot at bytes areas old new (OfLabels fault) area_in slot_in room width e set count is h = absurd h
mount_tried area slot at bytes areas old new NoFile area_in slot_in room width e set count is h = absurd h
mount_tried area slot at bytes areas old new NoSlot area_in slot_in room width e set count is h = absurd h
mount_tried area slot at bytes areas old new Permanent area_in slot_in room width e set count is h = absurd h
mount_tried area slot at bytes areas old new Exists area_in slot_in room width e set count is h = absurd h
mount_tried area slot at bytes areas old new (Damaged other) area_in slot_in room width e set count is h = absurd h
mount_tried area slot at bytes areas old new NoName area_in slot_in room width e set count is h = absurd h
