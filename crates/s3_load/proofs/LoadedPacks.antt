-- What filling a file and counting its records leave of a pack.
use Rattle.std.proofs.Common.{◌≡◌, ◌≢◌, ℕ, zero, suc, ◌+◌, ◌*◌, ◌/◌, ◌%◌, ◌^◌, ◌<◌, ◌≤◌, inl, inr, true, false, List, [], ◌∷◌, ◌++◌, length, map, drop, slice_get, Option, Some, None, Ok, refl, sym, ap, ap₂, ◌∙◌, subst, arith}
use Rattle.std.specs.List.{Contains, position_from, range_with_len}
use Rattle.std.proofs.lemmas.Bool.{cases_eq}
use Rattle.s3_cards.specs.declared.levels.LevelId.{LevelId}
use Rattle.s3_cards.specs.declared.levels.LevelId.TheVariants.{One, Two}
use Rattle.s3_cards.specs.declared.name.Name.{Name}
use Rattle.s3_store.specs.Bytes.{bytes_at, part}
use Rattle.s3_store.specs.declared.stretch.Stretch.{Stretch}
use Rattle.s3_store.proofs.SectorLists.{slice_get_set_other, slice_get_set_same}
use Rattle.s3_store.proofs.SectorParts.{sector_bytes-same}
use Rattle.s3_slots.specs.Header.{mounted, region_of}
use Rattle.s3_slots.specs.Labels.{file_bytes, is_indexed, sectors_of}
use Rattle.s3_slots.specs.Slots.{bears, is_count_of, is_well_formed, judged, labels_at, slot_bytes, slots_of, standing}
use Rattle.s3_slots.specs.declared.header.Format.{Format}
use Rattle.s3_slots.specs.declared.header.Header.{Header}
use Rattle.s3_slots.specs.declared.label.FileLabel.{FileLabel}
use Rattle.s3_slots.specs.declared.slot.Slot.{Slot}
use Rattle.s3_slots.specs.declared.slot.Slot.TheVariants.{Sound}
use Rattle.s3_slots.specs.declared.slot.Standing.TheVariants.{Present}
use Rattle.s3_slots.proofs.Judging.{slots_kept}
use Rattle.s3_slots.proofs.Keeping.{formed_from, formed_parts}
use Rattle.s3_slots.proofs.Makes.{present_is, present_somewhere}
use Rattle.s3_labels.specs.Areas.{IsLabelSector, area_of}
use Rattle.s3_labels.specs.Inner.Areas.{Areas, areas_on, slots_at, with_count_bytes}
use Rattle.s3_labels.specs.Inner.Written.{WritesSlot}
use Rattle.s3_labels.proofs.Labelled.{slots_kept as judged_alike}
use Rattle.s3_labels.proofs.MigratedPacks.{file_same}
use Rattle.s3_labels.proofs.NewSlots.{judged_later}
use Rattle.s3_keyed.specs.Inner.Unused.{KeepsUnused}
use Rattle.s3_keyed.specs.Index.{index_in, keys_of, layout_of}
use Rattle.s3_keyed.specs.KeyOrder.{is_good_index}
use Rattle.s3_files.specs.Records.{records_in}
use Rattle.s3_files.specs.Inner.Files.{file_of}
use Rattle.s3_unload.specs.Inner.Ordered.{in_order}
use Rattle.s3_pack_care.specs.Inner.Kept.{IsMounted, IsOther, slot_on}
use Rattle.s3_pack_care.specs.Inner.Rows.{KeepsTail}
use Rattle.s3_pack_care.proofs.Copies.{files_apart, slot_stays}
use Rattle.s3_pack_care.proofs.Named.{present_named}
use Rattle.s3_pack_care.proofs.Relabelled.{file_behind, mounted_same}
use Rattle.s3_load.specs.declared.order.Order.{Order}
use Rattle.s3_load.specs.Inner.Filling.{ChangesOnly, HasGoodIndex, HasMore, KeepsSpare, counted}
use Rattle.s3_load.specs.Inner.Loaded.{ChangesLoaded, HasFile, HasSpace, IsAsked, IsCounted, IsPlaced, KeepsLoadedTail}
use Rattle.s3_load.proofs.CountedSlots.{counted_slots, slots_later}

-- ---- slots of a level's area
pub area_few : (level : LevelId) → area_of level < 3
area_few One = omega arith
area_few Two = omega arith

pub own_on : (level : LevelId) (header : Header) (contents : List (List ℕ)) (i : ℕ) → slot_on header contents (area_of level) i ≡ slice_get (slots_of header.format (region_of level header) (area_of level) contents) i
own_on One header contents i = refl
own_on Two header contents i = refl

pub own_at : (level : LevelId) (header : Header) (contents : List (List ℕ)) → slots_at level (areas_on header contents) ≡ slots_of header.format (region_of level header) (area_of level) contents
own_at One header contents = refl
own_at Two header contents = refl

pub own_mounted : (level : LevelId) (areas : Areas) (contents : List (List ℕ)) (i : ℕ) → IsMounted areas contents → slot_on areas.header contents (area_of level) i ≡ slice_get (slots_at level areas) i
own_mounted One areas contents i is = sym (ap (λ (a : Areas). slice_get a.level_one i) is.judged)
own_mounted Two areas contents i is = sym (ap (λ (a : Areas). slice_get a.level_two i) is.judged)

-- the slots of an area are those of its label sectors
pub slot_elsewhere : (header : Header) (old new : List (List ℕ)) (a i : ℕ) → a < 3 → ((n : ℕ) → IsLabelSector a n → slice_get new n ≡ slice_get old n) → slot_on header new a i ≡ slot_on header old a i
slot_elsewhere header old new zero i few same = ap (λ slots. slice_get slots i) (judged_alike header.format header.masters 0 old new same)
slot_elsewhere header old new (suc zero) i few same = ap (λ slots. slice_get slots i) (judged_alike header.format header.level_one 1 old new same)
slot_elsewhere header old new (suc (suc zero)) i few same = ap (λ slots. slice_get slots i) (judged_alike header.format header.level_two 2 old new same)
slot_elsewhere header old new (suc (suc (suc k))) i few same = absurd (omega (arith, few))

-- one slot of a level has a file of that label
pub one_slot : (level : LevelId) (header : Header) (contents : List (List ℕ)) (p q : ℕ) (first second : FileLabel) → slot_on header contents (area_of level) p ≡ Some (Sound first) → slot_on header contents (area_of level) q ≡ Some (Sound second)
    → first.name ≡ second.name → p ≡ q
one_slot level header contents p q first second one two same =
    (slots_kept header.format (region_of level header) (area_of level) contents).named p q first second (sym (own_on level header contents p) ∙ one) (sym (own_on level header contents q) ∙ two) same

pub get_within : (slots : List Slot) (i : ℕ) (slot : Slot) → slice_get slots i ≡ Some slot → i < length slots
get_within [] i slot h = absurd cc
get_within (x ∷ slots) zero slot h = omega arith
get_within (x ∷ slots) (suc i) slot h = let e = get_within slots i slot h in omega (arith, e)

later_long : (format : Format) (region : Stretch) (f : ℕ → List ℕ) (n k : ℕ) (earlier : List Slot) → length (judged_later format region earlier (map f (range_with_len k n))) ≡ n
later_long format region f zero k earlier = refl
later_long format region f (suc n) k earlier = ap suc (later_long format region f n (k + 1) (earlier ++ judged format region earlier (f k) ∷ []))

pub slots_long : (format : Format) (region : Stretch) (area : ℕ) (contents : List (List ℕ)) → length (slots_of format region area contents) ≡ 32
slots_long format region area contents = ap length (slots_later format region area contents) ∙ later_long format region (slot_bytes area contents) 32 0 []

pub own_within : (level : LevelId) (header : Header) (contents : List (List ℕ)) (i : ℕ) (label : FileLabel) → slot_on header contents (area_of level) i ≡ Some (Sound label) → i < 32
own_within level header contents i label there =
    let within = get_within (slots_of header.format (region_of level header) (area_of level) contents) i (Sound label) (sym (own_on level header contents i) ∙ there) in
    let long = slots_long header.format (region_of level header) (area_of level) contents in
    omega (arith, within, long)

sound_same : (a b : FileLabel) → Some (Sound a) ≡ Some (Sound b) → a ≡ b
sound_same a b h = cc

-- ---- mounts behind changes that leave the labels
abbrev of_parts : Header → (masters level_one level_two : List Slot) → Areas
of_parts header masters level_one level_two = record { header = header; masters = masters; level_one = level_one; level_two = level_two }

areas_kept : (header : Header) (old new : List (List ℕ)) → ((n : ℕ) → n < 168 → slice_get new n ≡ slice_get old n) → areas_on header old ≡ areas_on header new
areas_kept header old new low =
    let masters = judged_alike header.format header.masters 0 old new (λ n is. low n (omega (arith, is.1))) in
    let one = judged_alike header.format header.level_one 1 old new (λ n is. low n (omega (arith, is.1))) in
    let two = judged_alike header.format header.level_two 2 old new (λ n is. low n (omega (arith, is.1))) in
    ap (λ m. of_parts header m (slots_of header.format header.level_one 1 old) (slots_of header.format header.level_two 2 old)) (sym masters)
    ∙ ap₂ (λ o t. of_parts header (slots_of header.format header.masters 0 new) o t) (sym one) (sym two)

pub mounted_behind : (areas : Areas) (old new : List (List ℕ)) → IsMounted areas old → length new ≡ length old → ((n : ℕ) → n < 168 → slice_get new n ≡ slice_get old n) → IsMounted areas new
mounted_behind areas old new is count low = record {
  mounts = mounted_same old new count (low 0 (omega arith)) ∙ is.mounts;
  judged = is.judged ∙ areas_kept areas.header old new low;
}

-- where only the sectors of a file change, the labels stay
pub low_kept : (area slot : ℕ) (header : Header) (old new : List (List ℕ)) (label : FileLabel) → area < 3 → mounted old ≡ Ok header → slot_on header old area slot ≡ Some (Sound label)
    → ((n : ℕ) → ¬ Contains (sectors_of label) n → slice_get new n ≡ slice_get old n) → (n : ℕ) → n < 168 → slice_get new n ≡ slice_get old n
low_kept area slot header old new label few mounts there kept n low =
    kept n (λ has. let behind = file_behind header old area slot label n mounts few there has in omega (arith, behind, low))

-- a mounted pack, one file of which was filled
pub mounted_filled : (order : Order) (areas : Areas) (header : Header) (old middle new : List (List ℕ)) (label : FileLabel) → IsPlaced order header old middle label → areas.header ≡ header → IsMounted areas middle → length new ≡ length middle
    → ChangesOnly (sectors_of label) middle new → IsMounted areas new
mounted_filled order areas header old middle new label placed same is count only =
    let mounts : mounted middle ≡ Ok header = is.mounts ∙ ap Ok same in
    mounted_behind areas middle new is count (low_kept (area_of order.level) placed.slot header middle new label (area_few order.level) mounts placed.there only.others)

-- ---- a file is counted
count_formed : (region : Stretch) (label : FileLabel) (n : ℕ) → is_well_formed region label ≡ true → is_count_of label.organization label.capacity n ≡ true → is_well_formed region (counted label n) ≡ true
count_formed region label n h counts =
    let parts = formed_parts region label h in
    formed_from region (counted label n) (record { length = parts.length; key = parts.key; room = parts.room; some = parts.some; counted = counts; fits = parts.fits })

module _ (level : LevelId) (name : Name) (n : ℕ) (areas : Areas) (old new : List (List ℕ)) (label : FileLabel) (is : IsMounted areas old) (stands : standing name (slots_at level areas) ≡ Present label)
    (may : is_count_of label.organization label.capacity n ≡ true) (small : n < 2 ^ 32) (written : WritesSlot name (slots_at level areas) (area_of level) (with_count_bytes n) old new)
    (others : (j : ℕ) → position_from (bears name) 0 (slots_at level areas) ≢ Some j → slot_bytes (area_of level) new j ≡ slot_bytes (area_of level) old j)
    (count : length new ≡ length old) (within : (i : ℕ) → ¬ IsLabelSector (area_of level) i → slice_get new i ≡ slice_get old i) where
  at_place : (p : ℕ) → position_from (bears name) 0 (slots_at level areas) ≡ Some p → IsCounted level name n areas.header old new
  at_place p at =
      let header : Header = areas.header in
      let few = area_few level in
      let was : slot_on header old (area_of level) p ≡ Some (Sound label) = own_mounted level areas old p is ∙ present_is name (slots_at level areas) label p stands at in
      let own : slice_get (slots_of header.format (region_of level header) (area_of level) old) p ≡ Some (Sound label) = sym (own_on level header old p) ∙ was in
      let low = own_within level header old p label was in
      let formed = count_formed (region_of level header) label n ((slots_kept header.format (region_of level header) (area_of level) old).formed p label own) may in
      let set = counted_slots header.format (region_of level header) (area_of level) p n label old new low small own formed (written p at)
      (λ j differ. others j (λ here. let same : Some p ≡ Some j = sym at ∙ here in let e : p ≡ j = cc in differ (sym e))) in
      record {
        mounts = mounted_same old new count (within 0 (λ sector. omega (arith, sector.0))) ∙ is.mounts;
        slot = p;
        label = label;
        was = was;
        named = present_named name (slots_at level areas) label stands;
        there =
            own_on level header new p ∙ ap (λ slots. slice_get slots p) set
            ∙ slice_get_set_same (slots_of header.format (region_of level header) (area_of level) old) p (Sound (counted label n)) (get_within (slots_of header.format (region_of level header) (area_of level) old) p (Sound label) own);
        others = λ a i other. elim (cases_eq a (area_of level)) [
          | inl here ↦
              rw here
              (own_on level header new i ∙ ap (λ slots. slice_get slots i) set
              ∙ slice_get_set_other (slots_of header.format (region_of level header) (area_of level) old) p i (Sound (counted label n)) (λ e. other.other here e)
              ∙ sym (own_on level header old i))
          | inr differ ↦ slot_elsewhere header old new a i other.area_in (λ k sector. within k (λ mine. differ (omega (arith, sector.0, sector.1, mine.0, mine.1))))
        ];
        labels = λ i differ. others i (λ here. let same : Some p ≡ Some i = sym at ∙ here in let e : p ≡ i = cc in differ (sym e));
        sectors = within;
      }

  pub counted_is : IsCounted level name n areas.header old new
  counted_is = by (position_from (bears name) 0 (slots_at level areas)) refl
    where
      by : (place : Option ℕ) → position_from (bears name) 0 (slots_at level areas) ≡ place → IsCounted level name n areas.header old new
      by None e = absurd (present_somewhere name (slots_at level areas) label stands e)
      by (Some p) e = at_place p e

-- ---- a file that was filled and counted
asked_counted : (order : Order) (label : FileLabel) (n : ℕ) → IsAsked order label → IsAsked order (counted label n)
asked_counted order label n is = record { named = is.named; long = is.long; keyed = is.keyed }

counted_space : (order : Order) (rows : ℕ) (header : Header) (old : List (List ℕ)) (label : FileLabel) (n : ℕ) → HasSpace order rows header old label → HasSpace order rows header old (counted label n)
counted_space order rows header old label n is = record { new = is.new; sized = is.sized; is = ap (λ (l : FileLabel). counted l n) is.is; extents = is.extents }

in_order_same : (label : FileLabel) (old new : List (List ℕ)) → file_bytes label new ≡ file_bytes label old → in_order label new ≡ in_order label old
unfolding in_order
in_order_same label old new same = ap (records_in label.record_length label.count) same

file_bytes_are : (label : FileLabel) (contents : List (List ℕ)) → file_bytes label contents ≡ bytes_at (sectors_of label) contents
unfolding file_bytes
file_bytes_are label contents = refl

nothing_in : (k : ℕ) → ¬ Contains [] k
nothing_in k has = omega (arith, has.1)

counted_sectors : (label : FileLabel) (n : ℕ) → sectors_of (counted label n) ≡ sectors_of label
unfolding sectors_of
counted_sectors label n = refl

counted_bytes : (label : FileLabel) (n : ℕ) (contents : List (List ℕ)) → file_bytes (counted label n) contents ≡ file_bytes label contents
unfolding file_bytes sectors_of
counted_bytes label n contents = refl

good_same : (label : FileLabel) (old new : List (List ℕ)) → file_bytes label new ≡ file_bytes label old → HasGoodIndex label old → HasGoodIndex label new
good_same label old new same good =
    let bytes : bytes_at (sectors_of label) new ≡ bytes_at (sectors_of label) old = sym (file_bytes_are label new) ∙ same ∙ file_bytes_are label old in
    ap₂ (λ b rs. is_good_index (index_in (layout_of label) label.count b) (keys_of (layout_of label).key rs)) bytes (in_order_same label old new same) ∙ good

module _ (order : Order) (added : List (List ℕ)) (header : Header) (begun placed_in filled new : List (List ℕ)) (label : FileLabel) (n : ℕ) (placed : IsPlaced order header begun placed_in label) (mounts : mounted placed_in ≡ Ok header)
    (only : ChangesOnly (sectors_of label) placed_in filled) (more : HasMore label added placed_in filled n)
    (good : is_indexed label.organization ≡ true → HasGoodIndex (counted label n) filled) (is : IsCounted order.level order.name n header filled new) where
  area : ℕ
  area = area_of order.level

  low : (k : ℕ) → k < 168 → slice_get filled k ≡ slice_get placed_in k
  low = low_kept (area_of order.level) placed.slot header placed_in filled label (area_few order.level) mounts placed.there only.others

  still_there : slot_on header filled (area_of order.level) placed.slot ≡ Some (Sound label)
  still_there = slot_stays header placed_in filled (area_of order.level) placed.slot (area_few order.level) low ∙ placed.there

  same_slot : is.slot ≡ placed.slot
  same_slot = one_slot order.level header filled is.slot placed.slot is.label label is.was still_there (is.named ∙ sym placed.asked.named)

  same_label : is.label ≡ label
  same_label = sound_same is.label label (sym is.was ∙ ap (slot_on header filled (area_of order.level)) same_slot ∙ still_there)

  now_there : slot_on header new (area_of order.level) placed.slot ≡ Some (Sound (counted label n))
  now_there = ap (slot_on header new (area_of order.level)) (sym same_slot) ∙ is.there ∙ ap (λ (l : FileLabel). Some (Sound (counted l n))) same_label

  -- no file has sectors among the labels
  behind : (k : ℕ) → 168 ≤ k → slice_get new k ≡ slice_get filled k
  behind k high = is.sectors k (λ sector. let level_few = area_few order.level in omega (arith, sector.1, high, level_few))

  -- the bytes of the file
  own_bytes : file_bytes label new ≡ file_bytes label filled
  own_bytes = file_same label new filled (λ k has. sector_bytes-same filled new k (behind k (file_behind header placed_in (area_of order.level) placed.slot label k mounts (area_few order.level) placed.there has)))

  counted_same : file_bytes (counted label n) new ≡ file_bytes (counted label n) filled
  counted_same = counted_bytes label n new ∙ own_bytes ∙ sym (counted_bytes label n filled)

  -- the other slots and files
  other_slot : (a i : ℕ) → IsOther (area_of order.level) placed.slot a i → slot_on header new a i ≡ slot_on header placed_in a i
  other_slot a i other =
      is.others a i (record { area_in = other.area_in; slot_in = other.slot_in; other = λ own here. other.other own (here ∙ same_slot) })
      ∙ slot_stays header placed_in filled a i other.area_in low

  other_bytes : (a i : ℕ) (one : FileLabel) → IsOther (area_of order.level) placed.slot a i → slot_on header placed_in a i ≡ Some (Sound one) → file_bytes one new ≡ file_bytes one placed_in
  other_bytes a i one other there = file_same one new placed_in (λ k has. sector_bytes-same placed_in new k
      (behind k (file_behind header placed_in a i one k mounts other.area_in there has)
      ∙ only.others k (λ mine. files_apart header placed_in mounts (area_of order.level) placed.slot a i label one k (area_few order.level) other.area_in placed.there there other.other mine has)))

  pub has_file : (order.appends ≡ false → HasSpace order (length added) header begun label) → HasFile order added header begun new
  has_file space = record {
    mounts = is.mounts;
    slot = placed.slot;
    slot_in = placed.slot_in;
    label = counted label n;
    there = now_there;
    asked = asked_counted order label n placed.asked;
    records = in_order_same (counted label n) filled new counted_same ∙ more.records ∙ ap (λ rs. rs ++ added) placed.begins;
    vacant = placed.vacant;
    kept = λ anew. let as_asked = placed.kept anew in record { retained = as_asked.retained; dated = as_asked.dated };
    space = λ anew. counted_space order (length added) header begun label n (space anew);
    continued = λ goes_on.
        let was = placed.continued goes_on in
        record { before = was.before; was = was.was; same = ap (λ (l : FileLabel). counted l n) was.same };
    index = λ indexed. good_same (counted label n) filled new counted_same (good indexed);
    others = record {
      kept = λ a i other stays.
          let before = placed.others.kept a i other stays in
          record {
            slot = other_slot a i other ∙ before.slot;
            bytes = λ one there. other_bytes a i one other (before.slot ∙ there) ∙ before.bytes one there;
          };
      freed = λ a i other replaced. other_slot a i other ∙ placed.others.freed a i other replaced;
    };
    undamaged = placed.undamaged;
  }

  -- the bytes after the last record
  begun_bytes : file_bytes label placed_in ≡ file_bytes label begun
  begun_bytes = file_same label placed_in begun (λ k has. sector_bytes-same begun placed_in k (placed.rest.sectors k
      (λ sector.
      let high = file_behind header placed_in (area_of order.level) placed.slot label k mounts (area_few order.level) placed.there has in
      let level_few = area_few order.level in
      omega (arith, sector.1, high, level_few))
      (nothing_in k)))

  own_tail : is_indexed label.organization ≡ false → KeepsTail (file_of (counted label n)) begun new
  own_tail plain =
      let same : drop (n * label.record_length) (bytes_at (sectors_of label) new) ≡ drop (n * label.record_length) (bytes_at (sectors_of label) begun) =
      ap (drop (n * label.record_length)) (sym (file_bytes_are label new) ∙ own_bytes ∙ file_bytes_are label filled) ∙ more.tail plain
      ∙ ap (drop (n * label.record_length)) (sym (file_bytes_are label placed_in) ∙ begun_bytes ∙ file_bytes_are label begun) in
      subst (λ (s : List ℕ). drop (n * label.record_length) (bytes_at s new) ≡ drop (n * label.record_length) (bytes_at s begun)) (sym (counted_sectors label n)) same

  own_spare : KeepsSpare label n placed_in filled → KeepsSpare (counted label n) n begun new
  own_spare spare =
      let before : bytes_at (sectors_of label) placed_in ≡ bytes_at (sectors_of label) begun = sym (file_bytes_are label placed_in) ∙ begun_bytes ∙ file_bytes_are label begun in
      let after : bytes_at (sectors_of label) filled ≡ bytes_at (sectors_of label) new = sym (sym (file_bytes_are label new) ∙ own_bytes ∙ file_bytes_are label filled) in
      subst (λ (s : List ℕ). KeepsUnused (layout_of label) n (bytes_at s begun) (bytes_at s new)) (sym (counted_sectors label n))
      (subst (λ (b : List ℕ). KeepsUnused (layout_of label) n b (bytes_at (sectors_of label) new)) before
      (subst (λ (b : List ℕ). KeepsUnused (layout_of label) n (bytes_at (sectors_of label) placed_in) b) after spare))

  pub loaded_tail : (is_indexed label.organization ≡ true → KeepsSpare label n placed_in filled) → KeepsLoadedTail order begun new
  loaded_tail spare = record { header = header; mounts = is.mounts; slot = placed.slot; label = counted label n; there = now_there; named = placed.asked.named; so = (own_tail, λ indexed. own_spare (spare indexed)) }

  pub loaded_only : length new ≡ length begun → ChangesLoaded order header begun new
  loaded_only long = record {
    header = header;
    mounts = is.mounts;
    slot = placed.slot;
    label = counted label n;
    there = now_there;
    named = placed.asked.named;
    labels = λ i few differ stays.
        is.labels i (λ e. differ (e ∙ same_slot))
        ∙ ap (λ sector. part sector (i % 4 * 64) 64)
        (sector_bytes-same placed_in filled (labels_at (area_of order.level) + i / 4) (low (labels_at (area_of order.level) + i / 4) (let level_few = area_few order.level in omega (arith, few, level_few))))
        ∙ placed.rest.labels i few differ stays;
    sectors = λ k out none. is.sectors k out ∙ only.others k (λ has. none (subst (λ (s : List ℕ). Contains s k) (sym (counted_sectors label n)) has)) ∙ placed.rest.sectors k out (nothing_in k);
    long = long;
  }

-- the pack by its bytes
pub file_on : (order : Order) (added : List (List ℕ)) (header : Header) (begun after old new : List (List ℕ)) → begun ≡ old → new ≡ after → HasFile order added header begun after → HasFile order added header old new
file_on order added header begun after old new first last has =
    subst (λ (s : List (List ℕ)). HasFile order added header s new) first (subst (λ (t : List (List ℕ)). HasFile order added header begun t) (sym last) has)
