-- What labels say of their slots after a label was written, counted or dropped.
use Rattle.std.proofs.Common.{◌≡◌, ◌≢◌, ℕ, zero, suc, ◌+◌, ◌*◌, ◌/◌, ◌%◌, ◌^◌, ◌<◌, ◌≤◌, ◌==◌, Bool, true, false, List, [], ◌∷◌, length, map, drop, replicate, slice_get, slice_set, slice_index, Option, Some, None, Ok, Err, if◌then◌else◌, refl, sym, ap, ap₂, ◌∙◌, arith, inl, inr, ◌⊎◌, subst}
use Rattle.std.specs.Prelude.{IfSome}
use Rattle.std.specs.List.{list_any, range_with_len, position_from}
use Rattle.std.proofs.lemmas.Bool.{cases_eq, eqb-true}
use Rattle.std.proofs.lemmas.List.{length-set}
use Rattle.byteorder.specs.Endian.{big_bytes, big_number}
use Rattle.byteorder.specs.Numbers.{big_from-take, big_number-reads_back}
use Rattle.s3_cards.specs.declared.levels.LevelId.{LevelId}
use Rattle.s3_cards.specs.declared.levels.LevelId.TheVariants.{One, Two}
use Rattle.s3_cards.specs.declared.name.Name.{Name}
use Rattle.s3_cards.specs.Names.{is_name}
use Rattle.s3_cards.specs.declared.retention.Retention.{Retention}
use Rattle.s3_store.proofs.SectorLists.{slice_get_set_same, slice_get_set_other}
use Rattle.s3_store.proofs.SectorParts.{length-sector_bytes}
use Rattle.s3_store.specs.Bytes.{part, sector_bytes}
use Rattle.s3_store.specs.declared.stretch.Stretch.{Stretch}
use Rattle.s3_slots.specs.Header.{stretch_at}
use Rattle.s3_slots.specs.Inner.Kept.{AreKept}
use Rattle.s3_slots.specs.Inner.Labels.{IsWritable, label_bytes}
use Rattle.s3_slots.specs.Labels.{extents_in, label_in, label_with, name_by, name_in, organization_by, retention_by, used}
use Rattle.s3_slots.specs.Inner.Making.{IsNewFile, refusal}
use Rattle.s3_slots.specs.Making.{changed_at, changed_in, dropped, is_permanent, made, new_label, put, put_at, put_in, put_over, tracks_of}
use Rattle.s3_slots.specs.Placement.{free_slot, placed, placed_or, lowest_place}
use Rattle.s3_slots.specs.Slots.{bears, is_sound, is_well_formed, judged, judged_label, labels_at, slot_bytes, standing}
use Rattle.s3_slots.specs.declared.header.Format.{Format}
use Rattle.s3_slots.specs.declared.header.Format.TheVariants.{First, Second}
use Rattle.s3_slots.specs.declared.label.FileLabel.{FileLabel}
use Rattle.s3_slots.specs.declared.label.Organization.{Organization}
use Rattle.s3_slots.specs.declared.making.LabelFault.TheVariants.{Master, Retained}
use Rattle.s3_slots.specs.declared.making.NewFile.{NewFile}
use Rattle.s3_slots.specs.declared.slot.Slot.{Slot}
use Rattle.s3_slots.specs.declared.slot.Slot.TheVariants.{Damaged, Free, Sound}
use Rattle.s3_slots.specs.declared.slot.Standing.{Standing}
use Rattle.s3_slots.specs.declared.slot.Standing.TheVariants.{Absent, Blocked, Present}
use Rattle.s3_slots.proofs.Judging.{absent_dropped, absent_nowhere, made_kept}
use Rattle.s3_slots.proofs.Keeping.{set_cases}
use Rattle.s3_slots.proofs.Makes.{dropped_is, present_is, present_somewhere}
use Rattle.s3_slots.proofs.NewFiles.{new_tracks}
use Rattle.s3_slots.proofs.ReadBack.{reads_back, reads_back_first}
use Rattle.s3_slots.proofs.Rooms.{placed_is}
use Rattle.s3_labels.specs.Inner.Areas.{Areas, IsReady, region_at, slots_at, with_count_bytes, with_slots}
use Rattle.s3_labels.specs.Areas.{area_of}
use Rattle.s3_labels.specs.Inner.Labelled.{KeepsSaid, SaysSlots, slots_alone}
use Rattle.s3_labels.proofs.Labelled.{sound_alone}
use Rattle.s3_labels.proofs.Moved.{IsRead, writable}
use Rattle.s3_labels.proofs.Parts.{drop_behind, part_before, part_put}
use Rattle.s3_labels.proofs.Regions.{ready_region}
use Rattle.s3_labels.proofs.Sectors.{part_length, same_index, same_number}

-- ---- slot by slot
said_at : (f : ℕ → Slot) (k n i : ℕ) → i < n → slice_get (map f (range_with_len k n)) i ≡ Some (f (k + i))
said_at f k zero i h = absurd (omega (arith, h))
said_at f k (suc n) zero h = let e : k + 0 ≡ k = omega arith in rw e refl
said_at f k (suc n) (suc i) h = let e : k + 1 + i ≡ k + suc i = omega arith in said_at f (k + 1) n i (omega (arith, h)) ∙ ap (λ m. Some (f m)) e

said_from : (f : ℕ → Slot) (k n : ℕ) (slots : List Slot) → length slots ≡ n → ((i : ℕ) → i < n → slice_get slots i ≡ Some (f (k + i))) → map f (range_with_len k n) ≡ slots
said_from f k zero [] long each = refl
said_from f k zero (slot ∷ slots) long each = absurd (omega (arith, long))
said_from f k (suc n) [] long each = absurd (omega (arith, long))
said_from f k (suc n) (slot ∷ slots) long each =
    let e : k + 0 ≡ k = omega arith in
    let first : slot ≡ f (k + 0) = let h = each 0 (omega arith) in cc in
    ap₂ (λ x xs. x ∷ xs) (ap f (sym e) ∙ sym first) (said_from f (k + 1) n slots (omega (arith, long)) (λ i h. let same : k + suc i ≡ k + 1 + i = omega arith in each (suc i) (omega (arith, h)) ∙ ap (λ m. Some (f m)) same))

said_length : (f : ℕ → Slot) (k n : ℕ) → length (map f (range_with_len k n)) ≡ n
said_length f k zero = refl
said_length f k (suc n) = ap suc (said_length f (k + 1) n)

-- slot by slot, what the labels of an area say
record IsSaid (format : Format) (region : Stretch) (area : ℕ) (contents : List (List ℕ)) (slots : List Slot) : Type 0 where
  long : length slots ≡ 32
  each : (i : ℕ) → i < 32 → slice_get slots i ≡ Some (judged format region [] (slot_bytes area contents i))

is_said : (format : Format) (region : Stretch) (area : ℕ) (contents : List (List ℕ)) (slots : List Slot) → slots_alone format region area contents ≡ slots → IsSaid format region area contents slots
unfolding slots_alone
is_said format region area contents slots h = record {
  long = sym (ap length h) ∙ said_length (λ i. judged format region [] (slot_bytes area contents i)) 0 32;
  each = λ i few.
      let e : 0 + i ≡ i = omega arith in
      sym (ap (λ l. slice_get l i) h) ∙ said_at (λ j. judged format region [] (slot_bytes area contents j)) 0 32 i few ∙ ap (λ j. Some (judged format region [] (slot_bytes area contents j))) e;
}

from_said : (format : Format) (region : Stretch) (area : ℕ) (contents : List (List ℕ)) (slots : List Slot) → IsSaid format region area contents slots → slots_alone format region area contents ≡ slots
unfolding slots_alone
from_said format region area contents slots so =
    said_from (λ j. judged format region [] (slot_bytes area contents j)) 0 32 slots so.long (λ i few.
    let e : i ≡ 0 + i = omega arith in
    so.each i few ∙ ap (λ j. Some (judged format region [] (slot_bytes area contents j))) e)

said_long : (format : Format) (region : Stretch) (area : ℕ) (slots : List Slot) (s : List (List ℕ)) → slots_alone format region area s ≡ slots → length slots ≡ 32
said_long format region area slots s says = (is_said format region area s slots says).long

-- one slot is written, and says what it is
pub said_set : (format : Format) (region : Stretch) (area place : ℕ) (slot : Slot) (slots : List Slot) (s t : List (List ℕ)) → place < 32 → judged format region [] (slot_bytes area t place) ≡ slot
    → ((j : ℕ) → j < 32 → j ≢ place → slot_bytes area t j ≡ slot_bytes area s j) → slots_alone format region area s ≡ slots → slots_alone format region area t ≡ slice_set slots place slot
said_set format region area place slot slots s t within is others says =
    let so = is_said format region area s slots says in
    from_said format region area t (slice_set slots place slot) (record {
      long = length-set slots place slot ∙ so.long;
      each = λ i few. elim (cases_eq i place) [
        | inl e ↦ ap (slice_get (slice_set slots place slot)) e ∙ slice_get_set_same slots place slot (omega (arith, so.long, within)) ∙ ap Some (sym is ∙ ap (λ j. judged format region [] (slot_bytes area t j)) (sym e))
        | inr differ ↦ slice_get_set_other slots place i slot differ ∙ so.each i few ∙ ap (λ bytes. Some (judged format region [] bytes)) (sym (others i few differ))
      ];
    })

pub said_get : (format : Format) (region : Stretch) (area i : ℕ) (slot : Slot) (slots : List Slot) (s : List (List ℕ)) → i < 32 → slice_get slots i ≡ Some slot → slots_alone format region area s ≡ slots
    → judged format region [] (slot_bytes area s i) ≡ slot
said_get format region area i slot slots s within there says =
    let h = sym ((is_said format region area s slots says).each i within) ∙ there in cc

-- ---- a label is dropped
pub free_alone : (format : Format) (region : Stretch) (bytes : List ℕ) → bytes ≡ replicate 64 0 → judged format region [] bytes ≡ Free
free_alone format region bytes h = ap (judged format region []) h

-- ---- a label is counted
record IsOfLabel (format : Format) (bytes : List ℕ) (label : FileLabel) : Type 0 where
  marked : slice_index bytes 0 ≡ 1
  read : label_in format bytes ≡ Some label

of_label : (format : Format) (region : Stretch) (bytes : List ℕ) (label : FileLabel) → judged format region [] bytes ≡ Sound label → IsOfLabel format bytes label
of_label format region bytes label h = by (slice_index bytes 0 == 0) (slice_index bytes 0 == 1) refl (label_in format bytes) refl h
  where
    tested : (b : Bool) (found : FileLabel) → (if b then Sound found else Damaged (name_in bytes)) ≡ Sound label → found ≡ label
    tested true found e = cc
    tested false found e = absurd cc

    by : (a b : Bool) → (slice_index bytes 0 == 1) ≡ b → (found : Option FileLabel) → label_in format bytes ≡ found
        → (if a then Free else (if b then judged_label region [] (name_in bytes) found else Damaged (name_in bytes))) ≡ Sound label → IsOfLabel format bytes label
    by true b marked found read e = absurd cc
    by false true marked None read e = absurd cc
    by false true marked (Some found) read e = record { marked = eqb-true (slice_index bytes 0) 1 marked; read = read ∙ ap Some (tested (is_sound region [] found) found e) }
    by false false marked found read e = absurd cc

module _ (bytes : List ℕ) (n : ℕ) (long : 28 ≤ length bytes) (small : n < 2 ^ 32) where
  abbrev counted_bytes : List ℕ
  counted_bytes = with_count_bytes n bytes

  front : (at w : ℕ) → at + w ≤ 24 → part counted_bytes at w ≡ part bytes at w
  front at w h = part_before at 24 4 w bytes (big_bytes 4 n) h (omega (arith, long))

  behind : (at : ℕ) → 28 ≤ at → drop at counted_bytes ≡ drop at bytes
  behind at h = drop_behind at 24 4 bytes (big_bytes 4 n) refl (omega (arith, h)) (omega (arith, long))

  number : (w at : ℕ) → at + w ≤ 24 → big_number w (drop at counted_bytes) ≡ big_number w (drop at bytes)
  number w at h = same_number counted_bytes bytes w at (front at w h)

  byte : (at : ℕ) → at + 1 ≤ 24 → slice_index counted_bytes at ≡ slice_index bytes at
  byte at h = same_index counted_bytes bytes at (front at 1 h)

  later : (at : ℕ) → 28 ≤ at → stretch_at at counted_bytes ≡ stretch_at at bytes
  later at h = ap₂ (λ a b. record { start = a; sectors = b }) (ap (big_number 2) (behind at h)) (ap (big_number 2) (behind (at + 2) (omega (arith, h))))

  first : stretch_at 16 counted_bytes ≡ stretch_at 16 bytes
  first = ap₂ (λ a b. record { start = a; sectors = b }) (number 2 16 (omega arith)) (number 2 18 (omega arith))

  extents : (format : Format) → extents_in format counted_bytes ≡ extents_in format bytes
  extents First = ap (λ e. used (e ∷ [])) first
  extents Second =
      ap₂ (λ a b. used (a ∷ b ∷ stretch_at 38 counted_bytes ∷ stretch_at 42 counted_bytes ∷ [])) first (later 34 (omega arith))
      ∙ ap₂ (λ c d. used (stretch_at 16 bytes ∷ stretch_at 34 bytes ∷ c ∷ d ∷ [])) (later 38 (omega arith)) (later 42 (omega arith))

  count : big_number 4 (drop 24 counted_bytes) ≡ n
  count =
      sym (big_from-take 0 4 4 (drop 24 counted_bytes) (omega arith))
      ∙ ap (big_number 4) (part_put 24 4 bytes (big_bytes 4 n) refl (omega (arith, long)))
      ∙ big_number-reads_back 4 n [] small

  fields : (format : Format) (name : Option Name) (organization : Option Organization) (retention : Option Retention) (label : FileLabel) → label_with format bytes name organization retention ≡ Some label
      → label_with format counted_bytes name organization retention ≡ Some (record label { count = n })
  fields format None organization retention label h = absurd cc
  fields format (Some name) None retention label h = absurd cc
  fields format (Some name) (Some organization) None label h = absurd cc
  fields format (Some name) (Some organization) (Some retention) label h =
      (rw (number 2 11 (omega arith), byte 13 (omega arith), number 2 14 (omega arith), extents format, number 4 20 (omega arith), count, behind 28 (omega arith)) refl)
      ∙ counted _ label h
    where
      counted : (found label : FileLabel) → Some found ≡ Some label → Some (record found { count = n }) ≡ Some (record label { count = n })
      counted found label e = let same : found ≡ label = cc in ap (λ (l : FileLabel). Some (record l { count = n })) same

  label_counted : (format : Format) (label : FileLabel) → label_in format bytes ≡ Some label → label_in format counted_bytes ≡ Some (record label { count = n })
  label_counted format label h =
      ap (λ codes. label_with format counted_bytes (name_by codes) (organization_by (slice_index counted_bytes 9)) (retention_by (slice_index counted_bytes 10))) (front 1 8 (omega arith))
      ∙ ap (λ code. label_with format counted_bytes (name_in bytes) (organization_by code) (retention_by (slice_index counted_bytes 10))) (byte 9 (omega arith))
      ∙ ap (λ code. label_with format counted_bytes (name_in bytes) (organization_by (slice_index bytes 9)) (retention_by code)) (byte 10 (omega arith))
      ∙ fields format (name_in bytes) (organization_by (slice_index bytes 9)) (retention_by (slice_index bytes 10)) label h

  pub counted_alone : (format : Format) (region : Stretch) (label : FileLabel) → judged format region [] bytes ≡ Sound label → is_well_formed region (record label { count = n }) ≡ true
      → judged format region [] counted_bytes ≡ Sound (record label { count = n })
  counted_alone format region label h formed =
      let of = of_label format region bytes label h in
      sound_alone format region counted_bytes (record label { count = n }) (byte 0 (omega arith) ∙ of.marked) (label_counted format label of.read) formed

pub slot_long : (area i : ℕ) (contents : List (List ℕ)) → length (slot_bytes area contents i) ≡ 64
slot_long area i contents = let e = length-sector_bytes contents (labels_at area + i / 4) in part_length (sector_bytes contents (labels_at area + i / 4)) (i % 4 * 64) 64 (omega (arith, e))

-- ---- the slots of a level
says_with : (level : LevelId) (slots : List Slot) (old new : Areas) (t : List (List ℕ)) → new ≡ with_slots level slots old
    → slots_alone old.header.format (region_at level old) (area_of level) t ≡ slots → SaysSlots level new t
says_with One slots old new t set h = rw set h
says_with Two slots old new t set h = rw set h

-- the file of a name has a slot
record IsPlaced (name : Name) (slots : List Slot) (place : ℕ) : Type 0 where
  label : FileLabel
  there : slice_get slots place ≡ Some (Sound label)

is_placed : (name : Name) (slots : List Slot) (place : ℕ) → refusal (standing name slots) ≡ None → position_from (bears name) 0 slots ≡ Some place → IsPlaced name slots place
is_placed name slots place sound at = by (standing name slots) refl sound
  where
    by : (stands : Standing) → standing name slots ≡ stands → refusal stands ≡ None → IsPlaced name slots place
    by Absent e h = absurd cc
    by Blocked e h = absurd cc
    by (Present label) e h = record { label = label; there = present_is name slots label place e at }

changed_there : (change : FileLabel → Slot) (slots : List Slot) (place : ℕ) (label : FileLabel) → slice_get slots place ≡ Some (Sound label) → changed_in change slots (Some place) ≡ slice_set slots place (change label)
changed_there change slots place label there = ap (changed_at change slots place) there

module _ (level : LevelId) (name : Name) (place : ℕ) (old new : Areas) (s t : List (List ℕ)) (within : place < 32) (sound : refusal (standing name (slots_at level old)) ≡ None)
    (at : position_from (bears name) 0 (slots_at level old) ≡ Some place) (others : (j : ℕ) → j ≢ place → slot_bytes (area_of level) t j ≡ slot_bytes (area_of level) s j) where
  pub says_dropped : new ≡ with_slots level (changed_in (λ label. Free) (slots_at level old) (Some place)) old → slot_bytes (area_of level) t place ≡ replicate 64 0 → KeepsSaid level old s new t
  says_dropped set cleared says =
      let is = is_placed name (slots_at level old) place sound at in
      says_with level (changed_in (λ label. Free) (slots_at level old) (Some place)) old new t set
      (said_set old.header.format (region_at level old) (area_of level) place Free (slots_at level old) s t within (free_alone old.header.format (region_at level old) (slot_bytes (area_of level) t place) cleared) (λ j few differ. others j differ) says
      ∙ sym (changed_there (λ label. Free) (slots_at level old) place is.label is.there))

  pub says_counted : (n : ℕ) → n < 2 ^ 32 → AreKept (region_at level old) (changed_in (λ label. Sound (record label { count = n })) (slots_at level old) (Some place))
      → new ≡ with_slots level (changed_in (λ label. Sound (record label { count = n })) (slots_at level old) (Some place)) old
      → slot_bytes (area_of level) t place ≡ with_count_bytes n (slot_bytes (area_of level) s place) → KeepsSaid level old s new t
  says_counted n small kept set written says =
      let is = is_placed name (slots_at level old) place sound at in
      let bytes : List ℕ = slot_bytes (area_of level) s place in
      let long : 28 ≤ length bytes = let e = slot_long (area_of level) place s in omega (arith, e) in
      let changed = changed_there (λ label. Sound (record label { count = n })) (slots_at level old) place is.label is.there in
      let whole : length (slots_at level old) ≡ 32 = said_long old.header.format (region_at level old) (area_of level) (slots_at level old) s says in
      let formed : is_well_formed (region_at level old) (record is.label { count = n }) ≡ true =
      kept.formed place (record is.label { count = n }) (ap (λ slots. slice_get slots place) changed ∙ slice_get_set_same (slots_at level old) place (Sound (record is.label { count = n })) (omega (arith, whole, within))) in
      let before = said_get old.header.format (region_at level old) (area_of level) place (Sound is.label) (slots_at level old) s within is.there says in
      let after : judged old.header.format (region_at level old) [] (slot_bytes (area_of level) t place) ≡ Sound (record is.label { count = n }) =
      ap (judged old.header.format (region_at level old) []) written ∙ counted_alone bytes n long small old.header.format (region_at level old) is.label before formed in
      says_with level (changed_in (λ label. Sound (record label { count = n })) (slots_at level old) (Some place)) old new t set
      (said_set old.header.format (region_at level old) (area_of level) place (Sound (record is.label { count = n })) (slots_at level old) s t within after (λ j few differ. others j differ) says
      ∙ sym changed)

-- ---- a file is made
-- the file of that label has no slot, or one that is freed
record IsFreed (name : Name) (slots : List Slot) : Type 0 where
  place : ℕ
  at : position_from (bears name) 0 slots ≡ Some place
  is : dropped name slots ≡ slice_set slots place Free

abbrev IsDropped : Name → List Slot → Type 0
IsDropped name slots = ((position_from (bears name) 0 slots ≡ None) × (dropped name slots ≡ slots)) ⊎ IsFreed name slots

-- the new file is in a slot of those without the old one
record IsPut (format : Format) (region : Stretch) (new : NewFile) (slots : List Slot) (at : ℕ) (after : List Slot) : Type 0 where
  extents : List Stretch
  room : placed format region slots (tracks_of new) ≡ Some extents
  is : after ≡ slice_set slots at (Sound (new_label new extents))

put_is : (format : Format) (region : Stretch) (new : NewFile) (slots : List Slot) (at : ℕ) (after : List Slot) → free_slot slots ≡ Some at → put format region new slots ≡ Ok after → IsPut format region new slots at after
put_is format region new slots at after free h = by (placed format region slots (tracks_of new)) refl (sym (ap (put_at format region new slots) free) ∙ h)
  where
    by : (extents : Option (List Stretch)) → placed format region slots (tracks_of new) ≡ extents → put_in new slots at extents ≡ Ok after → IsPut format region new slots at after
    by None e k = absurd cc
    by (Some extents) e k = record { extents = extents; room = e; is = cc }

record IsMadeOf (format : Format) (region : Stretch) (new : NewFile) (slots after : List Slot) : Type 0 where
  old : IsDropped new.name slots
  put_so : put format region new (dropped new.name slots) ≡ Ok after

made_of : (format : Format) (region : Stretch) (masters : List Slot) (new : NewFile) (slots after : List Slot) → made format region masters new slots ≡ Ok after → IsMadeOf format region new slots after
unfolding made
made_of format region masters new slots after h = own (list_any (bears new.name) masters) h
  where
    freed : (old : FileLabel) → standing new.name slots ≡ Present old → (place : Option ℕ) → position_from (bears new.name) 0 slots ≡ place → IsDropped new.name slots
    freed old stands None at = absurd (present_somewhere new.name slots old stands at)
    freed old stands (Some place) at = inr (record { place = place; at = at; is = dropped_is new.name slots old place stands at })

    over : (permanent : Bool) (old : FileLabel) → standing new.name slots ≡ Present old → (if permanent then Err Retained else put format region new (dropped new.name slots)) ≡ Ok after → IsMadeOf format region new slots after
    over true old stands k = absurd cc
    over false old stands k = record { old = freed old stands (position_from (bears new.name) 0 slots) refl; put_so = k }

    by : (stands : Standing) → standing new.name slots ≡ stands → put_over format region new slots stands ≡ Ok after → IsMadeOf format region new slots after
    by Absent e k =
        let same = absent_dropped new.name slots e in
        record { old = inl (absent_nowhere new.name slots e, same); put_so = ap (put format region new) same ∙ k }
    by Blocked e k = absurd cc
    by (Present old) e k = over (is_permanent old.retention) old e k

    own : (b : Bool) → (if b then Err Master else put_over format region new slots (standing new.name slots)) ≡ Ok after → IsMadeOf format region new slots after
    own true k = absurd cc
    own false k = by (standing new.name slots) refl k

module _ (format : Format) (region : Stretch) (area : ℕ) (name : Name) (slots : List Slot) (at : ℕ) (slot : Slot) (s t : List (List ℕ)) (freed : Option ℕ)
    (within : at < 32) (is : judged format region [] (slot_bytes area t at) ≡ slot) (found : freed ≡ position_from (bears name) 0 slots) (cleared : IfSome freed (λ i. i ≢ at → slot_bytes area t i ≡ replicate 64 0))
    (others : (j : ℕ) → j < 32 → freed ≢ Some j → j ≢ at → slot_bytes area t j ≡ slot_bytes area s j) (says : slots_alone format region area s ≡ slots) where
  so : IsSaid format region area s slots
  so = is_said format region area s slots says

  stays : (i : ℕ) → i < 32 → freed ≢ Some i → i ≢ at → slice_get slots i ≡ Some (judged format region [] (slot_bytes area t i))
  stays i few other differ = so.each i few ∙ ap (λ bytes. Some (judged format region [] bytes)) (sym (others i few other differ))

  -- a slot that isn't the new file's
  other_slot : IsDropped name slots → (i : ℕ) → i < 32 → i ≢ at → slice_get (dropped name slots) i ≡ Some (judged format region [] (slot_bytes area t i))
  other_slot (inl gone) i few differ = ap (λ l. slice_get l i) gone.1 ∙ stays i few (λ e. let no : None ≡ Some i = sym gone.0 ∙ sym found ∙ e in cc) differ
  other_slot (inr gone) i few differ = ap (λ l. slice_get l i) gone.is ∙ elim (cases_eq i gone.place) [
    | inl e ↦
        let here : IfSome (Some gone.place) (λ k. k ≢ at → slot_bytes area t k ≡ replicate 64 0) = rw (found ∙ gone.at) at cleared in
        let zeros : slot_bytes area t i ≡ replicate 64 0 = ap (slot_bytes area t) e ∙ here (λ same. differ (e ∙ same)) in
        ap (slice_get (slice_set slots gone.place Free)) e ∙ slice_get_set_same slots gone.place Free (omega (arith, so.long, e, few)) ∙ ap Some (sym (free_alone format region (slot_bytes area t i) zeros))
    | inr other ↦ slice_get_set_other slots gone.place i Free other ∙ stays i few (λ same. let k : Some gone.place ≡ Some i = sym gone.at ∙ sym found ∙ same in other cc) differ
  ]

  dropped_long : IsDropped name slots → length (dropped name slots) ≡ 32
  dropped_long (inl gone) = ap length gone.1 ∙ so.long
  dropped_long (inr gone) = ap length gone.is ∙ length-set slots gone.place Free ∙ so.long

  made_said : (after : List Slot) → IsDropped name slots → after ≡ slice_set (dropped name slots) at slot → slots_alone format region area t ≡ after
  made_said after old set = from_said format region area t after (record {
    long = ap length set ∙ length-set (dropped name slots) at slot ∙ dropped_long old;
    each = λ i few. ap (λ l. slice_get l i) set ∙ elim (cases_eq i at) [
      | inl e ↦ ap (slice_get (slice_set (dropped name slots) at slot)) e ∙ slice_get_set_same (dropped name slots) at slot (omega (arith, dropped_long old, within)) ∙ ap Some (sym is ∙ ap (λ j. judged format region [] (slot_bytes area t j)) (sym e))
      | inr differ ↦ slice_get_set_other (dropped name slots) at i slot differ ∙ other_slot old i few differ
    ];
  })

-- ---- its label reads back
mark : (label : FileLabel) → slice_index (label_bytes label) 0 ≡ 1
unfolding label_bytes
mark label = refl

one_extent : (region : Stretch) (slots : List Slot) (tracks : ℕ) (extents : List Stretch) → placed First region slots tracks ≡ Some extents → length extents ≡ 1
unfolding placed
one_extent region slots tracks extents h = by (lowest_place region slots tracks) h
  where
    by : (place : Option Stretch) → placed_or First region slots tracks place ≡ Some extents → length extents ≡ 1
    by None e = absurd cc
    by (Some extent) e = let same : extent ∷ [] ≡ extents = cc in ap length (sym same)

reads : (format : Format) (region : Stretch) (slots : List Slot) (tracks : ℕ) (label : FileLabel) → placed format region slots tracks ≡ Some label.extents → IsWritable label → label_in format (label_bytes label) ≡ Some label
reads First region slots tracks label room can = reads_back_first label can (one_extent region slots tracks label.extents room)
reads Second region slots tracks label room can = reads_back label can

-- the label of a new file
record IsNewLabel (new : NewFile) (label : FileLabel) : Type 0 where
  name : label.name ≡ new.name
  date : label.date ≡ new.date

new_is : (new : NewFile) (extents : List Stretch) → IsNewLabel new (new_label new extents)
unfolding new_label
new_is new extents = record { name = refl; date = refl }

extents_are : (new : NewFile) (extents : List Stretch) → (new_label new extents).extents ≡ extents
unfolding new_label
extents_are new extents = refl

label_read : (new : NewFile) (label : FileLabel) → length new.name.codes ≡ 8 → length new.date ≡ 6 → IsNewFile new → length label.extents ≤ 4 → IsNewLabel new label → IsRead label
label_read new label codes date proper few is = record {
  codes = ap (λ (n : Name). length n.codes) is.name ∙ codes;
  named = ap (λ (n : Name). is_name n.codes) is.name ∙ proper.named;
  few = few;
  date = ap length is.date ∙ date;
}

sound_same : (a b : FileLabel) → Some (Sound a) ≡ Some (Sound b) → a ≡ b
sound_same a b h = cc

module _ (level : LevelId) (new : NewFile) (old after : Areas) (s t : List (List ℕ)) (at : ℕ) (label : FileLabel) (freed : Option ℕ) (ready : IsReady old s) (proper : IsNewFile new) (codes : length new.name.codes ≡ 8) (date : length new.date ≡ 6) (within : at < 32)
    (is : made old.header.format (region_at level old) old.masters new (slots_at level old) ≡ Ok (slots_at level after)) (set : after ≡ with_slots level (slots_at level after) old)
    (free : free_slot (dropped new.name (slots_at level old)) ≡ Some at) (there : slice_get (slots_at level after) at ≡ Some (Sound label)) where
  abbrev own : List Slot
  own = slots_at level old

  placing : (so : IsMadeOf old.header.format (region_at level old) new own (slots_at level after)) → IsPut old.header.format (region_at level old) new (dropped new.name own) at (slots_at level after)
  placing so = put_is old.header.format (region_at level old) new (dropped new.name own) at (slots_at level after) free so.put_so

  at_there : (slots : List Slot) (i : ℕ) (slot : Slot) (found : FileLabel) → slice_get (slice_set slots i slot) i ≡ Some (Sound found) → slot ≡ Sound found
  at_there slots i slot found h = elim (set_cases slots i i slot (Sound found) h) [ inl e ↦ sym e.1 | inr was ↦ let same = slice_get_set_same slots i slot (get_within slots i (Sound found) was) in cc ]
    where
      get_within : (slots : List Slot) (i : ℕ) (slot : Slot) → slice_get slots i ≡ Some slot → i < length slots
      get_within [] i slot h = absurd cc
      get_within (x ∷ slots) zero slot h = omega arith
      get_within (x ∷ slots) (suc i) slot h = let e = get_within slots i slot h in omega (arith, e)

  new_one : (put_so : IsPut old.header.format (region_at level old) new (dropped new.name own) at (slots_at level after)) → new_label new put_so.extents ≡ label
  new_one put_so =
      let e = at_there (dropped new.name own) at (Sound (new_label new put_so.extents)) label (sym (ap (λ l. slice_get l at) put_so.is) ∙ there) in
      sound_same (new_label new put_so.extents) label (ap Some e)

  label_alone : (put_so : IsPut old.header.format (region_at level old) new (dropped new.name own) at (slots_at level after)) → judged old.header.format (region_at level old) [] (label_bytes label) ≡ Sound label
  label_alone put_so =
      let region = ready_region level old s ready in
      let same = new_one put_so in
      let extents : put_so.extents ≡ label.extents = sym (extents_are new put_so.extents) ∙ ap (λ (l : FileLabel). l.extents) same in
      let room : placed old.header.format (region_at level old) (dropped new.name own) (tracks_of new) ≡ Some label.extents = put_so.room ∙ ap Some extents in
      let few = (placed_is old.header.format (region_at level old) (dropped new.name own) (tracks_of new) label.extents region.whole (new_tracks new proper) room).few in
      let kept = made_kept old.header.format (region_at level old) old.masters new own (slots_at level after) region.whole proper (ready.own level) is in
      let formed = kept.formed at label there in
      let news : IsNewLabel new label = subst (λ l. IsNewLabel new l) same (new_is new put_so.extents) in
      let can = writable (region_at level old) label (omega (arith, region.high, ready.few)) formed (label_read new label codes date proper few news) in
      sound_alone old.header.format (region_at level old) (label_bytes label) label (mark label) (reads old.header.format (region_at level old) (dropped new.name own) (tracks_of new) label room can) formed

  pub says_made : freed ≡ position_from (bears new.name) 0 own → slot_bytes (area_of level) t at ≡ label_bytes label → IfSome freed (λ i. i ≢ at → slot_bytes (area_of level) t i ≡ replicate 64 0)
      → ((j : ℕ) → j < 32 → freed ≢ Some j → j ≢ at → slot_bytes (area_of level) t j ≡ slot_bytes (area_of level) s j) → KeepsSaid level old s after t
  says_made found written cleared others says =
      let so = made_of old.header.format (region_at level old) old.masters new own (slots_at level after) is in
      let put_so = placing so in
      let alone = ap (judged old.header.format (region_at level old) []) written ∙ label_alone put_so in
      says_with level (slots_at level after) old after t set
      (made_said old.header.format (region_at level old) (area_of level) new.name own at (Sound label) s t freed within alone found cleared others says (slots_at level after) so.old
      (put_so.is ∙ ap (λ l. slice_set (dropped new.name own) at (Sound l)) (new_one put_so)))
