-- A label that is written into a free slot of an area without damage: a mount judges it sound, and each other slot as it was.
use Rattle.std.proofs.Common.{◌≡◌, ◌≢◌, ℕ, zero, suc, ◌+◌, ◌*◌, ◌/◌, ◌%◌, ◌<◌, ◌≤◌, ◌==◌, Bool, true, false, nat_le, List, [], ◌∷◌, ◌++◌, length, map, take, replicate, slice_get, slice_set, slice_index, unwrap_or, Option, Some, None, Ok, if◌then◌else◌, refl, sym, ap, ap₂, ◌∙◌, subst, arith, inl, inr, length-append}
use Rattle.std.specs.List.{list_all, list_any, position_from, range_with_len, sum_by}
use Rattle.std.proofs.lemmas.Bool.{and_from, and_parts, cases_Bool, cases_eq, cond-false, cond-true, leb-true, or_from}
use Rattle.std.proofs.lemmas.Option.{slice_get_within}
use Rattle.std.proofs.lemmas.List.Sums.{sum_by-cons}
use Rattle.s3_cards.specs.declared.levels.LevelId.TheVariants.{One, Two}
use Rattle.s3_cards.specs.declared.name.Name.{Name}
use Rattle.s3_cards.specs.Names.{is_name}
use Rattle.s3_store.proofs.SectorLists.{slice_get_set_other, slice_get_set_same}
use Rattle.s3_store.specs.Bytes.{part, sector_bytes}
use Rattle.s3_store.specs.Inner.Bytes.{with_piece}
use Rattle.s3_store.specs.Stretches.{end_of}
use Rattle.s3_store.specs.declared.stretch.Stretch.{Stretch}
use Rattle.s3_files.proofs.Rooms.{length_sectors}
use Rattle.s3_slots.specs.Header.{mounted}
use Rattle.s3_slots.specs.Inner.Kept.{AreKept, IsOfPack}
use Rattle.s3_slots.specs.Inner.Labels.{IsWritable, label_bytes}
use Rattle.s3_slots.specs.Inner.Stretches.{IsWhole}
use Rattle.s3_slots.specs.Labels.{label_in, name_in, sectors_of}
use Rattle.s3_slots.specs.Placement.{free_slot, is_free, lowest_place, placed, placed_or}
use Rattle.s3_slots.specs.Slots.{bears, is_clear, is_disentangled, is_extent, is_sound, is_well_formed, judged, judged_behind, judged_label, labels_at, sectors_needed, slot_bytes, slots_of, standing}
use Rattle.s3_slots.specs.declared.header.Format.{Format}
use Rattle.s3_slots.specs.declared.header.Format.TheVariants.{First, Second}
use Rattle.s3_slots.specs.declared.header.Header.{Header}
use Rattle.s3_slots.specs.declared.label.FileLabel.{FileLabel}
use Rattle.s3_slots.specs.declared.slot.Slot.{Slot}
use Rattle.s3_slots.specs.declared.slot.Slot.TheVariants.{Damaged, Free, Sound}
use Rattle.s3_slots.specs.declared.slot.Standing.TheVariants.{Absent}
use Rattle.s3_slots.proofs.Judging.{absent_nowhere}
use Rattle.s3_slots.proofs.Keeping.{IsOneMore, formed_from, formed_parts, kept_more, set_cases}
use Rattle.s3_slots.proofs.ReadBack.{reads_back, reads_back_first}
use Rattle.s3_slots.proofs.Rooms.{IsPlacing, placed_is}
use Rattle.s3_labels.specs.Areas.{IsLabelSector}
use Rattle.s3_labels.specs.Inner.Areas.{Areas, IsReady, areas_on, slots_in}
use Rattle.s3_labels.specs.Inner.Labelled.{slots_alone}
use Rattle.s3_labels.proofs.Labelled.{judged_as_said, slots_kept as judged_alike, sound_alone}
use Rattle.s3_labels.proofs.Moved.{room_parts, within_parts, writable}
use Rattle.s3_labels.proofs.Regions.{IsRegion}
use Rattle.s3_pack_check.specs.Inner.Damages.{first_damaged, is_damaged}
use Rattle.s3_pack_check.specs.Inner.Wrongs.{region_in}
use Rattle.s3_pack_care.specs.Inner.Copied.{IsRoom, copied_label, tracks_in}
use Rattle.s3_pack_care.specs.Inner.Kept.{IsOther, IsRelabelled, slot_on}
use Rattle.s3_pack_care.proofs.Judged.{slot_judged}
use Rattle.s3_pack_care.proofs.Relabelled.{eq_or, mounted_same, other_bytes, other_sector, own_bytes}

-- ---- a slot that isn't damaged stands for itself
none_clear : (extents : List Stretch) → list_all (is_clear []) extents ≡ true
none_clear [] = refl
none_clear (extent ∷ extents) = none_clear extents

alone_apart : (label : FileLabel) → is_disentangled [] label ≡ true
alone_apart label = and_from (list_all (is_clear []) label.extents) true (none_clear label.extents) refl

abbrev sound_if : Bool → Option Name → FileLabel → Slot
sound_if sound name label = if sound then Sound label else Damaged name

sound_by_itself : (region : Stretch) (earlier : List Slot) (name : Option Name) (label : FileLabel) (b : Bool) → is_sound region earlier label ≡ b → is_damaged (sound_if b name label) ≡ false
    → sound_if (is_sound region [] label) name label ≡ sound_if b name label
sound_by_itself region earlier name label true is h =
    ap (λ s. sound_if s name label)
    (and_from (is_well_formed region label) (is_disentangled [] label) (and_parts (is_well_formed region label) (is_disentangled earlier label) is).0 (alone_apart label))
sound_by_itself region earlier name label false is h = absurd cc

label_by_itself : (region : Stretch) (earlier : List Slot) (name : Option Name) (found : Option FileLabel) → is_damaged (judged_label region earlier name found) ≡ false
    → judged_label region [] name found ≡ judged_label region earlier name found
label_by_itself region earlier name None h = absurd cc
label_by_itself region earlier name (Some label) h = sound_by_itself region earlier name label (is_sound region earlier label) refl h

abbrev marked_as : (free used : Bool) → Option Name → Slot → Slot
marked_as free used name slot = if free then Free else (if used then slot else Damaged name)

marked_by_itself : (region : Stretch) (earlier : List Slot) (free used : Bool) (name : Option Name) (found : Option FileLabel) → is_damaged (marked_as free used name (judged_label region earlier name found)) ≡ false
    → marked_as free used name (judged_label region [] name found) ≡ marked_as free used name (judged_label region earlier name found)
marked_by_itself region earlier true used name found h = refl
marked_by_itself region earlier false true name found h = label_by_itself region earlier name found h
marked_by_itself region earlier false false name found h = refl

by_itself : (format : Format) (region : Stretch) (earlier : List Slot) (bytes : List ℕ) → is_damaged (judged format region earlier bytes) ≡ false → judged format region [] bytes ≡ judged format region earlier bytes
by_itself format region earlier bytes h = marked_by_itself region earlier (slice_index bytes 0 == 0) (slice_index bytes 0 == 1) (name_in bytes) (label_in format bytes) h

-- where nothing passes a test, neither the first does nor one of the others
pub nowhere : {A : Type 0} (p : A → Bool) (k : ℕ) (x : A) (xs : List A) → position_from p k (x ∷ xs) ≡ None → (p x ≡ false) × (position_from p (k + 1) xs ≡ None)
nowhere p k x xs h = elim (cases_Bool (p x)) [
  | inl passes ↦ let at : Some k ≡ None = sym (cond-true (p x) (Some k) (position_from p (k + 1) xs) passes) ∙ h in absurd cc
  | inr fails ↦ (fails, sym (cond-false (p x) (Some k) (position_from p (k + 1) xs) fails) ∙ h)
]

pub whole_at : (k : ℕ) (slots : List Slot) (i : ℕ) (slot : Slot) → position_from is_damaged k slots ≡ None → slice_get slots i ≡ Some slot → is_damaged slot ≡ false
whole_at k [] i slot h there = absurd cc
whole_at k (x ∷ slots) zero slot h there = let same : x ≡ slot = cc in sym (ap is_damaged same) ∙ (nowhere is_damaged k x slots h).0
whole_at k (x ∷ slots) (suc i) slot h there = whole_at (k + 1) slots i slot (nowhere is_damaged k x slots h).1 there

-- ---- the slots of an area, each by itself
judged_length : (format : Format) (region : Stretch) (earlier : List Slot) (more : List (List ℕ)) → length (judged_behind format region earlier more) ≡ length earlier + length more
judged_length format region earlier [] = omega arith
judged_length format region earlier (bytes ∷ more) =
    let slot : Slot = judged format region earlier bytes in
    omega (arith, judged_length format region (earlier ++ slot ∷ []) more, length-append earlier (slot ∷ []))

pub slots_32 : (format : Format) (region : Stretch) (area : ℕ) (contents : List (List ℕ)) → length (slots_of format region area contents) ≡ 32
unfolding slots_of
slots_32 format region area contents = judged_length format region [] (map (slot_bytes area contents) (range_with_len 0 32))

slots_each : (f : ℕ → Slot) (k n : ℕ) (slots : List Slot) → length slots ≡ n → ((i : ℕ) → i < n → slice_get slots i ≡ Some (f (k + i))) → map f (range_with_len k n) ≡ slots
slots_each f k zero [] long each = refl
slots_each f k zero (slot ∷ slots) long each = absurd (omega (arith, long))
slots_each f k (suc n) [] long each = absurd (omega (arith, long))
slots_each f k (suc n) (slot ∷ slots) long each =
    let e : k + 0 ≡ k = omega arith in
    let first : slot ≡ f (k + 0) = let h = each 0 (omega arith) in cc in
    ap₂ (λ x xs. x ∷ xs) (ap f (sym e) ∙ sym first)
    (slots_each f (k + 1) n slots (omega (arith, long)) (λ i h. let same : k + suc i ≡ k + 1 + i = omega arith in each (suc i) (omega (arith, h)) ∙ ap (λ m. Some (f m)) same))

length_set : (slots : List Slot) (i : ℕ) (slot : Slot) → length (slice_set slots i slot) ≡ length slots
length_set [] i slot = refl
length_set (x ∷ slots) zero slot = refl
length_set (x ∷ slots) (suc i) slot = ap suc (length_set slots i slot)

-- one slot of an area without damage is written, and is judged so by itself
module _ (format : Format) (region : Stretch) (area slot : ℕ) (new_slot : Slot) (old new : List (List ℕ)) (slot_in : slot < 32) (undamaged : first_damaged (slots_of format region area old) ≡ None)
    (own : judged format region [] (slot_bytes area new slot) ≡ new_slot) (others : (i : ℕ) → i < 32 → i ≢ slot → slot_bytes area new i ≡ slot_bytes area old i) where
  abbrev before : List Slot
  before = slots_of format region area old

  said : (i : ℕ) → i < 32 → slice_get (slice_set before slot new_slot) i ≡ Some (judged format region [] (slot_bytes area new i))
  said i few = elim (cases_eq i slot) [
    | inl e ↦
        ap (slice_get (slice_set before slot new_slot)) e ∙ slice_get_set_same before slot new_slot (omega (arith, slots_32 format region area old, slot_in))
        ∙ ap Some (sym own ∙ ap (λ j. judged format region [] (slot_bytes area new j)) (sym e))
    | inr differ ↦
        let was = slot_judged format region area i old few in
        let alone = by_itself format region was.earlier (slot_bytes area old i) (whole_at 0 before i (judged format region was.earlier (slot_bytes area old i)) undamaged was.there) in
        slice_get_set_other before slot i new_slot differ ∙ was.there ∙ ap Some (sym alone ∙ ap (judged format region []) (sym (others i few differ)))
  ]

  said_alone : slots_alone format region area new ≡ slice_set before slot new_slot
  unfolding slots_alone
  said_alone =
      slots_each (λ j. judged format region [] (slot_bytes area new j)) 0 32 (slice_set before slot new_slot) (length_set before slot new_slot ∙ slots_32 format region area old)
      (λ i few. let e : i ≡ 0 + i = omega arith in said i few ∙ ap (λ j. Some (judged format region [] (slot_bytes area new j))) e)

-- ---- the labels of the masters, moved to the place of level 1's labels
abbrev eight : List (List ℕ)
eight = [] ∷ [] ∷ [] ∷ [] ∷ [] ∷ [] ∷ [] ∷ [] ∷ []

abbrev moved : List (List ℕ) → List (List ℕ)
moved contents = eight ++ contents

get_behind : (xs ys : List (List ℕ)) (n : ℕ) → slice_get (xs ++ ys) (length xs + n) ≡ slice_get ys n
get_behind [] ys n = let e : 0 + n ≡ n = omega arith in ap (slice_get ys) e
get_behind (x ∷ xs) ys n = let e : length (x ∷ xs) + n ≡ suc (length xs + n) = omega arith in ap (slice_get ((x ∷ xs) ++ ys)) e ∙ get_behind xs ys n

sector_of : (one other : List (List ℕ)) (n m : ℕ) → slice_get one n ≡ slice_get other m → sector_bytes one n ≡ sector_bytes other m
unfolding sector_bytes
sector_of one other n m h = ap (λ got. take 256 (unwrap_or got [] ++ replicate 256 0)) h

moved_bytes : (contents : List (List ℕ)) (i : ℕ) → slot_bytes 1 (moved contents) i ≡ slot_bytes 0 contents i
moved_bytes contents i =
    let count : length eight ≡ 8 = refl in
    let e : labels_at 1 + i / 4 ≡ length eight + (labels_at 0 + i / 4) = omega (arith, count) in
    ap (λ bytes. part bytes (i % 4 * 64) 64)
    (sector_of (moved contents) contents (labels_at 1 + i / 4) (labels_at 0 + i / 4) (ap (slice_get (moved contents)) e ∙ get_behind eight contents (labels_at 0 + i / 4)))

map_same : {B : Type 0} (f g : ℕ → B) (xs : List ℕ) → ((x : ℕ) → f x ≡ g x) → map f xs ≡ map g xs
map_same f g [] same = refl
map_same f g (x ∷ xs) same = ap₂ (λ y ys. y ∷ ys) (same x) (map_same f g xs same)

moved_slots : (format : Format) (region : Stretch) (contents : List (List ℕ)) → slots_of format region 1 (moved contents) ≡ slots_of format region 0 contents
unfolding slots_of
moved_slots format region contents = ap (judged_behind format region []) (map_same (slot_bytes 1 (moved contents)) (slot_bytes 0 contents) (range_with_len 0 32) (moved_bytes contents))

moved_alone : (format : Format) (region : Stretch) (contents : List (List ℕ)) → slots_alone format region 1 (moved contents) ≡ slots_alone format region 0 contents
unfolding slots_alone
moved_alone format region contents =
    map_same (λ i. judged format region [] (slot_bytes 1 (moved contents) i)) (λ i. judged format region [] (slot_bytes 0 contents i)) (range_with_len 0 32) (λ i. ap (judged format region []) (moved_bytes contents i))

abbrev one_area : Header → List Slot → Areas
one_area header slots = record { header = header; masters = []; level_one = slots; level_two = slots }

-- labels that say slots whose files stay apart are judged as these slots, in each area
said_judged : (header : Header) (area : ℕ) (slots : List Slot) (new : List (List ℕ)) → area < 3 → AreKept (region_in area (areas_on header new)) slots
    → slots_alone header.format (region_in area (areas_on header new)) area new ≡ slots → slots_in area (areas_on header new) ≡ slots
said_judged header zero slots new few kept says =
    sym (moved_slots header.format header.masters new)
    ∙ judged_as_said One (one_area (record header { level_one = header.masters }) slots) (moved new) kept (moved_alone header.format header.masters new ∙ says)
said_judged header (suc zero) slots new few kept says = judged_as_said One (one_area header slots) new kept says
said_judged header (suc (suc zero)) slots new few kept says = judged_as_said Two (one_area header slots) new kept says
said_judged header (suc (suc (suc n))) slots new few kept says = absurd (omega (arith, few))

said_after : (header : Header) (area slot : ℕ) (new_slot : Slot) (old new : List (List ℕ)) → area < 3 → slot < 32 → first_damaged (slots_in area (areas_on header old)) ≡ None
    → judged header.format (region_in area (areas_on header old)) [] (slot_bytes area new slot) ≡ new_slot → ((i : ℕ) → i < 32 → i ≢ slot → slot_bytes area new i ≡ slot_bytes area old i)
    → slots_alone header.format (region_in area (areas_on header old)) area new ≡ slice_set (slots_in area (areas_on header old)) slot new_slot
said_after header zero slot new_slot old new few slot_in undamaged own others = said_alone header.format header.masters 0 slot new_slot old new slot_in undamaged own others
said_after header (suc zero) slot new_slot old new few slot_in undamaged own others = said_alone header.format header.level_one 1 slot new_slot old new slot_in undamaged own others
said_after header (suc (suc zero)) slot new_slot old new few slot_in undamaged own others = said_alone header.format header.level_two 2 slot new_slot old new slot_in undamaged own others
said_after header (suc (suc (suc n))) slot new_slot old new few slot_in undamaged own others = absurd (omega (arith, few))

one_region : (header : Header) (area : ℕ) (old new : List (List ℕ)) → region_in area (areas_on header new) ≡ region_in area (areas_on header old)
one_region header zero old new = refl
one_region header (suc zero) old new = refl
one_region header (suc (suc n)) old new = refl

pub slots_after : (header : Header) (area slot : ℕ) (new_slot : Slot) (old new : List (List ℕ)) → area < 3 → slot < 32 → first_damaged (slots_in area (areas_on header old)) ≡ None
    → AreKept (region_in area (areas_on header old)) (slice_set (slots_in area (areas_on header old)) slot new_slot)
    → judged header.format (region_in area (areas_on header old)) [] (slot_bytes area new slot) ≡ new_slot → ((i : ℕ) → i < 32 → i ≢ slot → slot_bytes area new i ≡ slot_bytes area old i)
    → slots_in area (areas_on header new) ≡ slice_set (slots_in area (areas_on header old)) slot new_slot
slots_after header area slot new_slot old new few slot_in undamaged kept own others =
    let same = one_region header area old new in
    said_judged header area (slice_set (slots_in area (areas_on header old)) slot new_slot) new few
    (subst (λ (r : Stretch). AreKept r (slice_set (slots_in area (areas_on header old)) slot new_slot)) (sym same) kept)
    (ap (λ (r : Stretch). slots_alone header.format r area new) same ∙ said_after header area slot new_slot old new few slot_in undamaged own others)

-- the slots of an area whose labels stay
area_stays : (header : Header) (old new : List (List ℕ)) (a i : ℕ) → a < 3 → ((n : ℕ) → IsLabelSector a n → slice_get new n ≡ slice_get old n) → slot_on header new a i ≡ slot_on header old a i
area_stays header old new zero i few same = ap (λ slots. slice_get slots i) (judged_alike header.format header.masters 0 old new same)
area_stays header old new (suc zero) i few same = ap (λ slots. slice_get slots i) (judged_alike header.format header.level_one 1 old new same)
area_stays header old new (suc (suc zero)) i few same = ap (λ slots. slice_get slots i) (judged_alike header.format header.level_two 2 old new same)
area_stays header old new (suc (suc (suc n))) i few same = absurd (omega (arith, few))

-- ---- the label of a copy
-- a file takes whole tracks, and some
sum_whole : (region : Stretch) (extents : List Stretch) → list_all (is_extent region) extents ≡ true → sum_by (λ extent. extent.sectors) extents % 24 ≡ 0
sum_whole region [] h = refl
sum_whole region (extent ∷ extents) h =
    let parts = and_parts (is_extent region extent) (list_all (is_extent region) extents) h in
    let one = (within_parts region extent parts.0).sectors in
    let rest = sum_whole region extents parts.1 in
    omega (arith, one, rest, sum_by-cons (λ (e : Stretch). e.sectors) extent extents)

sum_some : (region : Stretch) (extents : List Stretch) → 1 ≤ length extents → list_all (is_extent region) extents ≡ true → 24 ≤ sum_by (λ extent. extent.sectors) extents
sum_some region [] some h = absurd (omega (arith, some))
sum_some region (extent ∷ extents) some h =
    let parts = and_parts (is_extent region extent) (list_all (is_extent region) extents) h in
    let one = (within_parts region extent parts.0).some in
    omega (arith, one, sum_by-cons (λ (e : Stretch). e.sectors) extent extents)

pub record TakesTracks (label : FileLabel) : Type 0 where
  pub whole : length (sectors_of label) % 24 ≡ 0
  pub some : 24 ≤ length (sectors_of label)
  pub sum : length (sectors_of label) ≡ sum_by (λ extent. extent.sectors) label.extents

pub takes_tracks : (sectors : ℕ) (label : FileLabel) → IsOfPack sectors label → TakesTracks label
unfolding sectors_of
takes_tracks sectors label is =
    let room = room_parts is.region label is.formed in
    let sum = length_sectors label.extents in
    record {
      whole = omega (arith, sum, sum_whole is.region label.extents room.1);
      some = omega (arith, sum, sum_some is.region label.extents (leb-true 1 (length label.extents) room.0) room.1);
      sum = sum;
    }

one_extent : (region : Stretch) (slots : List Slot) (tracks : ℕ) (extents : List Stretch) → placed First region slots tracks ≡ Some extents → length extents ≡ 1
unfolding placed
one_extent region slots tracks extents h = by (lowest_place region slots tracks) h
  where
    by : (place : Option Stretch) → placed_or First region slots tracks place ≡ Some extents → length extents ≡ 1
    by None e = absurd cc
    by (Some extent) e = let same : extent ∷ [] ≡ extents = cc in ap length (sym same)

reads : (format : Format) (region : Stretch) (slots : List Slot) (tracks : ℕ) (label : FileLabel) → placed format region slots tracks ≡ Some label.extents → IsWritable label → label_in format (label_bytes label) ≡ Some label
reads First region slots tracks label room can = reads_back_first label can (one_extent region slots tracks label.extents room)
reads Second region slots tracks label room can = reads_back label can

marked : (label : FileLabel) → slice_index (label_bytes label) 0 ≡ 1
unfolding label_bytes
marked label = refl

module _ (format : Format) (region : Stretch) (slots : List Slot) (name : Name) (source : FileLabel) (extents : List Stretch) (sectors : ℕ) (whole : IsWhole region) (high : end_of region ≤ 65535)
    (read : IsOfPack sectors source) (room : placed format region slots (tracks_in source) ≡ Some extents) where
  abbrev label : FileLabel
  label = copied_label name source extents

  placing : IsPlacing region slots (tracks_in source) extents
  placing = placed_is format region slots (tracks_in source) extents whole (omega (arith, (takes_tracks sectors source read).some)) room

  pub same_sum : sum_by (λ extent. extent.sectors) extents ≡ sum_by (λ extent. extent.sectors) source.extents
  same_sum = let takes = takes_tracks sectors source read in omega (arith, placing.sectors, takes.whole, takes.sum)

  pub copied_formed : is_well_formed region label ≡ true
  copied_formed =
      let parts = formed_parts read.region source read.formed in
      formed_from region label (record {
        length = parts.length;
        key = parts.key;
        room = placing.whole;
        some = parts.some;
        counted = parts.counted;
        fits = ap (nat_le (sectors_needed source.organization source.record_length source.key_length source.capacity)) same_sum ∙ parts.fits;
      })

  pub copied_clear : list_all (is_clear slots) extents ≡ true
  copied_clear = placing.clear

  pub copied_alone : length name.codes ≡ 8 → is_name name.codes ≡ true → length source.date ≡ 6 → judged format region [] (label_bytes label) ≡ Sound label
  copied_alone codes named date =
      let can = writable region label high copied_formed (record { codes = codes; named = named; few = placing.few; date = date }) in
      sound_alone format region (label_bytes label) label (marked label) (reads format region slots (tracks_in source) label room can) copied_formed

-- ---- the slots of the area with the label
sound_same : (a b : FileLabel) → Sound a ≡ Sound b → a ≡ b
sound_same a b h = cc

free_is : (slot : Slot) → is_free slot ≡ true → slot ≡ Free
free_is Free h = refl
free_is (Damaged name) h = absurd cc
free_is (Sound label) h = absurd cc

record IsFreeAt (slots : List Slot) (k i : ℕ) : Type 0 where
  at : ℕ
  is : i ≡ k + at
  there : slice_get slots at ≡ Some Free

free_at : (k : ℕ) (slots : List Slot) (i : ℕ) → position_from is_free k slots ≡ Some i → IsFreeAt slots k i
free_at k [] i h = absurd cc
free_at k (x ∷ slots) i h = elim (cases_Bool (is_free x)) [
  | inl passes ↦
      let at : Some k ≡ Some i = sym (cond-true (is_free x) (Some k) (position_from is_free (k + 1) slots) passes) ∙ h in
      let same : k ≡ i = cc in
      record { at = 0; is = omega (arith, same); there = ap Some (free_is x passes) }
  | inr fails ↦
      let rest = free_at (k + 1) slots i (sym (cond-false (is_free x) (Some k) (position_from is_free (k + 1) slots) fails) ∙ h) in
      record { at = suc rest.at; is = omega (arith, rest.is); there = rest.there }
]

pub free_there : (slots : List Slot) (i : ℕ) → free_slot slots ≡ Some i → slice_get slots i ≡ Some Free
free_there slots i h = let so = free_at 0 slots i h in let e : i ≡ so.at = omega (arith, so.is) in ap (slice_get slots) e ∙ so.there

none_bears : (name : Name) (k : ℕ) (slots : List Slot) → position_from (bears name) k slots ≡ None → list_any (bears name) slots ≡ false
none_bears name k [] h = refl
none_bears name k (x ∷ slots) h =
    let so = nowhere (bears name) k x slots h in
    or_from (bears name x) (list_any (bears name) slots) so.0 (none_bears name (k + 1) slots so.1)

one_more : (region : Stretch) (slots : List Slot) (slot : ℕ) (label : FileLabel) → is_well_formed region label ≡ true → list_all (is_clear slots) label.extents ≡ true → standing label.name slots ≡ Absent
    → IsOneMore region slots (slice_set slots slot (Sound label)) slot label
one_more region slots slot label formed clear absent = record {
  each = λ j other there. elim (set_cases slots slot j (Sound label) (Sound other) there) [
    | inl is ↦ inl (is.0, sound_same other label is.1)
    | inr was ↦ inr was
  ];
  formed = formed;
  clear = clear;
  unused = none_bears label.name 0 slots (absent_nowhere label.name slots absent);
}

area_kept : (area : ℕ) (areas : Areas) (contents : List (List ℕ)) → area < 3 → IsReady areas contents → AreKept (region_in area areas) (slots_in area areas)
area_kept zero areas contents few ready = ready.masters
area_kept (suc zero) areas contents few ready = ready.own One
area_kept (suc (suc zero)) areas contents few ready = ready.own Two
area_kept (suc (suc (suc n))) areas contents few ready = absurd (omega (arith, few))

-- ---- the label is written
module _ (area slot sectors : ℕ) (name : Name) (source label : FileLabel) (header : Header) (old : List (List ℕ)) (area_in : area < 3) (slot_in : slot < 32) (mounts : mounted old ≡ Ok header)
    (ready : IsReady (areas_on header old) old) (region : IsRegion (length old) (region_in area (areas_on header old))) (read : IsOfPack sectors source) (codes : length name.codes ≡ 8) (named : is_name name.codes ≡ true)
    (date : length source.date ≡ 6) (room : IsRoom area name source (areas_on header old) slot label) where
  abbrev own_region : Stretch
  own_region = region_in area (areas_on header old)

  abbrev own_slots : List Slot
  own_slots = slots_in area (areas_on header old)

  abbrev copied : FileLabel
  copied = copied_label name source label.extents

  high : end_of own_region ≤ 65535
  high = omega (arith, region.high, ready.few)

  formed : is_well_formed own_region label ≡ true
  formed = ap (is_well_formed own_region) room.labelled ∙ copied_formed header.format own_region own_slots name source label.extents sectors region.whole high read room.lies

  pub label_on_pack : IsOfPack (length old) label
  label_on_pack = record { region = own_region; within = region.high; few = ready.few; formed = formed }

  pub label_room : length (sectors_of label) ≡ length (sectors_of source)
  unfolding sectors_of
  label_room = length_sectors label.extents ∙ same_sum header.format own_region own_slots name source label.extents sectors region.whole high read room.lies ∙ sym (length_sectors source.extents)

  kept : AreKept own_region (slice_set own_slots slot (Sound label))
  kept =
      kept_more own_region own_slots (slice_set own_slots slot (Sound label)) slot label (area_kept area (areas_on header old) old area_in ready)
      (one_more own_region own_slots slot label formed (copied_clear header.format own_region own_slots name source label.extents sectors region.whole high read room.lies)
      (ap (λ (l : FileLabel). standing l.name own_slots) room.labelled ∙ room.absent))

  alone : judged header.format own_region [] (label_bytes label) ≡ Sound label
  alone =
      ap (λ (l : FileLabel). judged header.format own_region [] (label_bytes l)) room.labelled
      ∙ copied_alone header.format own_region own_slots name source label.extents sectors region.whole high read room.lies codes named date ∙ ap (λ (l : FileLabel). Sound l) (sym room.labelled)

  module _ (new : List (List ℕ)) (at : ℕ) (width : length (label_bytes label) ≡ 64) (e : at ≡ slot % 4) (set : new ≡ with_piece old (labels_at area + slot / 4) (at * 64) (label_bytes label)) (count : length new ≡ length old) where
    enough : 25 ≤ length old
    enough = omega (arith, region.low, region.high)

    written_area : slots_in area (areas_on header new) ≡ slice_set own_slots slot (Sound label)
    written_area =
        slots_after header area slot (Sound label) old new area_in slot_in room.undamaged kept
        (ap (judged header.format own_region []) (own_bytes area slot at (label_bytes label) old new area_in slot_in enough width e set) ∙ alone)
        (λ i few differ. other_bytes area slot at (label_bytes label) old new area_in slot_in enough width e set area i (record { area_in = area_in; slot_in = few; other = λ same. differ }))

    pub written_there : slot_on header new area slot ≡ Some (Sound label)
    written_there = ap (λ slots. slice_get slots slot) written_area ∙ slice_get_set_same own_slots slot (Sound label) (slice_get_within own_slots slot Free (free_there own_slots slot room.free))

    others_stay : (a i : ℕ) → IsOther area slot a i → slot_on header new a i ≡ slot_on header old a i
    others_stay a i is = elim (eq_or a area) [
      | inl same ↦
          ap (λ n. slot_on header new n i) same ∙ ap (λ slots. slice_get slots i) written_area ∙ slice_get_set_other own_slots slot i (Sound label) (is.other same)
          ∙ ap (λ n. slot_on header old n i) (sym same)
      | inr differ ↦ area_stays header old new a i is.area_in (λ n has.
          other_sector area slot at (label_bytes label) old new area_in slot_in enough width e set n (λ place. differ (omega (arith, has.0, has.1, place, slot_in))))
    ]

    pub written_is : IsRelabelled area slot (label_bytes label) header old new
    written_is = record {
      mounts = mounted_same old new count (other_sector area slot at (label_bytes label) old new area_in slot_in enough width e set 0 (λ q. omega (arith, q))) ∙ mounts;
      own = own_bytes area slot at (label_bytes label) old new area_in slot_in enough width e set;
      labels = other_bytes area slot at (label_bytes label) old new area_in slot_in enough width e set;
      others = others_stay;
      sectors = other_sector area slot at (label_bytes label) old new area_in slot_in enough width e set;
    }
