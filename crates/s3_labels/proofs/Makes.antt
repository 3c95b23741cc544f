-- A make over the sectors of a pack, and a list of makes on a copy.
use Rattle.std.proofs.Common.{◌≡◌, ◌≢◌, ℕ, zero, suc, ◌+◌, ◌*◌, ◌/◌, ◌%◌, ◌≤◌, ◌<◌, true, List, [], ◌∷◌, ◌++◌, length, take, slice_get, Option, Some, Result, Ok, Err, drop, refl, sym, ap, ap₂, ◌∙◌, arith, inl, inr}
use Rattle.std.specs.Prelude.{IsOk, is_ok}
use Rattle.std.specs.List.{All}
use Rattle.s3_cards.specs.declared.levels.LevelId.{LevelId}
use Rattle.s3_cards.specs.declared.levels.LevelId.TheVariants.{One, Two}
use Rattle.s3_cards.specs.declared.name.Name.{Name}
use Rattle.s3_store.proofs.Frames.{within_trans, within_weaker}
use Rattle.s3_store.specs.Inner.State.{PoolState, ChangesWithin}
use Rattle.s3_store.specs.Stretches.{end_of}
use Rattle.s3_store.specs.declared.stretch.Stretch.{Stretch}
use Rattle.s3_slots.specs.Labels.{sectors_of}
use Rattle.s3_slots.specs.Slots.{are_extents, labels_at, slot_bytes, standing}
use Rattle.s3_store.specs.Bytes.{part}
use Rattle.s3_store.proofs.SectorParts.{sector_bytes-same}
use Rattle.s3_slots.specs.Making.{made}
use Rattle.s3_slots.specs.Inner.Making.{planned, and_then, file_in, found}
use Rattle.s3_slots.specs.declared.header.Format.{Format}
use Rattle.s3_slots.specs.declared.label.FileLabel.{FileLabel}
use Rattle.s3_slots.specs.declared.making.LabelFault.{LabelFault}
use Rattle.s3_slots.specs.declared.making.NewFile.{NewFile}
use Rattle.s3_slots.specs.declared.slot.Slot.{Slot}
use Rattle.s3_slots.specs.declared.slot.Slot.TheVariants.{Sound}
use Rattle.s3_slots.specs.declared.slot.Standing.{Standing}
use Rattle.s3_slots.specs.declared.slot.Standing.TheVariants.{Absent}
use Rattle.s3_slots.proofs.Ranges.{take_all}
use Rattle.s3_slots.proofs.Keeping.{extents_inside, extents_there}
use Rattle.s3_labels.specs.Inner.Areas.{Areas, IsReady, region_at, IsRecordOfDirect, IsOfMake, AreFilled}
use Rattle.s3_labels.specs.Areas.{area_of, IsLabelSector}
use Rattle.s3_labels.proofs.Regions.{ready_region}

-- ---- which sectors it changes
-- the label that a make has put into a slot
pub record IsMade (outcome : Result (List Slot) LabelFault) (name : Name) (label : FileLabel) : Type 0 where
  pub slots : List Slot
  pub at : ℕ
  pub is : outcome ≡ Ok slots
  pub there : slice_get slots at ≡ Some (Sound label)
  pub named : label.name ≡ name

records_of_make : (area : ℕ) (name : Name) (outcome : Result (List Slot) LabelFault) (label : FileLabel) (n : ℕ) → IsMade outcome name label → IsRecordOfDirect label n → IsOfMake area name outcome n
records_of_make area name outcome label n so has =
    rw so.is (inr (record { slot = so.at; label = label; there = so.there; named = so.named; has = has }))

labels_of_make : (area : ℕ) (name : Name) (outcome : Result (List Slot) LabelFault) (n : ℕ) → IsLabelSector area n → IsOfMake area name outcome n
labels_of_make area name (Ok slots) n is = inl is
labels_of_make area name (Err fault) n is = is

pub records_within : (area : ℕ) (name : Name) (outcome : Result (List Slot) LabelFault) (label : FileLabel) (s t : PoolState) → IsMade outcome name label
    → ChangesWithin (IsRecordOfDirect label) s t → ChangesWithin (IsOfMake area name outcome) s t
records_within area name outcome label s t so c = within_weaker (IsRecordOfDirect label) (IsOfMake area name outcome) s t (λ n has. records_of_make area name outcome label n so has) c

pub make_within : (area : ℕ) (name : Name) (outcome : Result (List Slot) LabelFault) (label : FileLabel) (s t u : PoolState) → IsMade outcome name label
    → ChangesWithin (IsRecordOfDirect label) s t → ChangesWithin (IsLabelSector area) t u → ChangesWithin (IsOfMake area name outcome) s u
make_within area name outcome label s t u so first second =
    within_trans (IsOfMake area name outcome) s t u (records_within area name outcome label s t so first)
    (within_weaker (IsLabelSector area) (IsOfMake area name outcome) t u (λ n is. labels_of_make area name outcome n is) second)

-- ---- the sectors of its extents
pub record IsThere (sectors : ℕ) (label : FileLabel) : Type 0 where
  pub stored : All (λ run. end_of run ≤ sectors) label.extents
  pub few : All (λ run. end_of run ≤ 65535) label.extents

pub there_for : (level : LevelId) (areas : Areas) (contents : List (List ℕ)) (label : FileLabel) → IsReady areas contents → are_extents (region_at level areas) label.extents ≡ true
    → IsThere (length contents) label
there_for level areas contents label ready placed =
    let region = ready_region level areas contents ready in
    record {
      stored = extents_there (region_at level areas) label.extents (length contents) placed region.high;
      few = extents_there (region_at level areas) label.extents 65535 placed (omega (arith, region.high, ready.few));
    }

behind_labels : (area n : ℕ) → area < 3 → 168 ≤ n → IsLabelSector area n → ⊥
behind_labels area n few low is = omega (arith, few, low, is.1)

-- blank records stay while the label is written
pub blanks_stay : (level : LevelId) (areas : Areas) (contents : List (List ℕ)) (area byte : ℕ) (label : FileLabel) (t u : PoolState) → area < 3 → IsReady areas contents
    → are_extents (region_at level areas) label.extents ≡ true → ChangesWithin (IsLabelSector area) t u → AreFilled byte (sectors_of label) t.contents → AreFilled byte (sectors_of label) u.contents
unfolding sectors_of
blanks_stay level areas contents area byte label t u few ready placed c filled = λ n h.
    let region = ready_region level areas contents ready in
    let inside = extents_inside (region_at level areas) label.extents n placed h in
    c.contents n (behind_labels area n few (omega (arith, region.low, inside.0))) ∙ filled n h

-- no slot of the labels changes while blank records are written
pub slots_stay : (level : LevelId) (areas : Areas) (contents : List (List ℕ)) (area : ℕ) (label : FileLabel) (s t : PoolState) → area < 3 → IsReady areas contents
    → are_extents (region_at level areas) label.extents ≡ true → ChangesWithin (IsRecordOfDirect label) s t → (j : ℕ) → j < 32 → slot_bytes area t.contents j ≡ slot_bytes area s.contents j
unfolding sectors_of
slots_stay level areas contents area label s t few ready placed c j below =
    let n = labels_at area + j / 4 in
    let region = ready_region level areas contents ready in
    let is : IsLabelSector area n = (omega arith, omega (arith, below)) in
    let out : IsRecordOfDirect label n → ⊥ = λ has.
    let inside = extents_inside (region_at level areas) label.extents n placed has.1 in
    behind_labels area n few (omega (arith, region.low, inside.0)) is in
    ap (λ sector. part sector (j % 4 * 64) 64) (sector_bytes-same s.contents t.contents n (c.contents n out))

pub few_areas : (level : LevelId) → area_of level < 3
few_areas One = omega arith
few_areas Two = omega arith

-- one that is neither the old file's nor the new one's stays
pub others_of_make : (freed old new : Option ℕ) (at j : ℕ) → freed ≡ old → new ≡ Some at → old ≢ Some j → new ≢ Some j → (freed ≢ Some j) × (j ≢ at)
others_of_make freed old new at j is there not_old not_new = ((λ e. not_old (sym is ∙ e)), (λ e. not_new (there ∙ ap Some (sym e))))

-- ---- a list of makes
pub record IsPlanning (format : Format) (region : Stretch) (masters : List Slot) (news : List NewFile) (old : List Slot) (i : ℕ) (slots : List Slot) : Type 0 where
  pub rest : planned i format region masters (drop i news) slots ≡ planned 0 format region masters news old

pub planning_start : (format : Format) (region : Stretch) (masters : List Slot) (news : List NewFile) (old : List Slot) → IsPlanning format region masters news old 0 old
planning_start format region masters news old = record { rest = refl }

drop_at : (news : List NewFile) (i : ℕ) (new : NewFile) → slice_get news i ≡ Some new → drop i news ≡ new ∷ drop (i + 1) news
drop_at [] i new h = absurd cc
drop_at (first ∷ news) zero new h = let same : first ≡ new = cc in rw same refl
drop_at (first ∷ news) (suc i) new h = let e : suc i + 1 ≡ suc (i + 1) = omega arith in rw e (drop_at news i new h)

pub planning_on : (format : Format) (region : Stretch) (masters : List Slot) (news : List NewFile) (old : List Slot) (i : ℕ) (slots after : List Slot) (new : NewFile) → slice_get news i ≡ Some new
    → made format region masters new slots ≡ Ok after → IsPlanning format region masters news old i slots → IsPlanning format region masters news old (i + 1) after
planning_on format region masters news old i slots after new here is so = record {
  rest = sym (ap (λ outcome. and_then i outcome (planned (i + 1) format region masters (drop (i + 1) news))) is)
      ∙ sym (ap (λ list. planned i format region masters list slots) (drop_at news i new here)) ∙ so.rest;
}

-- the slots are written back to a list that is as long
pub planning_written : (format : Format) (region : Stretch) (masters : List Slot) (news : List NewFile) (old : List Slot) (i : ℕ) (slots after : List Slot) (new : NewFile) (count : ℕ) → slice_get news i ≡ Some new
    → made format region masters new slots ≡ Ok after → length after ≡ length slots → count ≡ length slots → IsPlanning format region masters news old i slots
    → IsPlanning format region masters news old (i + 1) (take count (after ++ drop (length after) slots))
planning_written format region masters news old i slots after new count here is long all so =
    rw (take_all count after (drop (length after) slots) (long ∙ sym all)) (planning_on format region masters news old i slots after new here is so)

pub planning_fails : (format : Format) (region : Stretch) (masters : List Slot) (news : List NewFile) (old : List Slot) (i : ℕ) (slots : List Slot) (new : NewFile) (fault : LabelFault) → slice_get news i ≡ Some new
    → made format region masters new slots ≡ Err fault → IsPlanning format region masters news old i slots → planned 0 format region masters news old ≡ Err (i, fault)
planning_fails format region masters news old i slots new fault here is so =
    sym so.rest ∙ ap (λ list. planned i format region masters list slots) (drop_at news i new here)
    ∙ ap (λ outcome. and_then i outcome (planned (i + 1) format region masters (drop (i + 1) news))) is

pub planning_end : (format : Format) (region : Stretch) (masters : List Slot) (news : List NewFile) (old : List Slot) (i : ℕ) (slots : List Slot) → length news ≤ i
    → IsPlanning format region masters news old i slots → IsOk (planned 0 format region masters news old)
planning_end format region masters news old i slots all so =
    ap is_ok (sym so.rest ∙ ap (λ list. planned i format region masters list slots) (drop_all news i all))
  where
    drop_all : (xs : List NewFile) (i : ℕ) → length xs ≤ i → drop i xs ≡ []
    drop_all [] zero h = refl
    drop_all [] (suc i) h = refl
    drop_all (x ∷ xs) zero h = absurd (omega (arith, h))
    drop_all (x ∷ xs) (suc i) h = drop_all xs i (omega (arith, h))

-- ---- a file that is looked for
pub found_own : (name : Name) (own masters : List Slot) (stands : Standing) → stands ≡ standing name own → file_in stands (standing name masters) ≡ found name own masters
unfolding found
found_own name own masters stands h = ap (λ s. file_in s (standing name masters)) h

pub found_behind : (name : Name) (own masters : List Slot) (behind : Standing) → Absent ≡ standing name own → behind ≡ standing name masters → file_in Absent behind ≡ found name own masters
unfolding found
found_behind name own masters behind h b = ap₂ file_in h b
