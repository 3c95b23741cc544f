-- Where the regions of a pack that is ready lie.
use Rattle.std.proofs.Common.{◌≡◌, ℕ, ◌%◌, ◌≤◌, ◌<◌, Bool, true, false, ◌&&◌, nat_le, ◌==◌, List, [], ◌∷◌, length, slice_get, Some, Ok, refl, arith}
use Rattle.std.specs.Prelude.{nat_lt}
use Rattle.std.specs.List.{list_all}
use Rattle.std.proofs.lemmas.Bool.{and_parts, leb-true, ltb-false, eqb-true}
use Rattle.s3_cards.specs.declared.levels.LevelId.{LevelId}
use Rattle.s3_cards.specs.declared.levels.LevelId.TheVariants.{One, Two}
use Rattle.s3_store.specs.Stretches.{end_of}
use Rattle.s3_store.specs.declared.stretch.Stretch.{Stretch}
use Rattle.s3_cards.specs.declared.name.Name.{Name}
use Rattle.s3_slots.specs.Inner.Kept.{AreKept, IsOfPack}
use Rattle.s3_slots.specs.Slots.{standing}
use Rattle.s3_slots.specs.declared.label.FileLabel.{FileLabel}
use Rattle.s3_slots.specs.declared.slot.Slot.TheVariants.{Sound}
use Rattle.s3_slots.specs.declared.slot.Standing.TheVariants.{Present}
use Rattle.s3_slots.proofs.Makes.{present_at}
use Rattle.s3_slots.specs.Stretches.{IsIn, is_apart, is_apart_from_all, are_apart}
use Rattle.s3_slots.specs.Inner.Stretches.{IsWhole}
use Rattle.s3_slots.proofs.Rooms.{apart_sectors}
use Rattle.s3_slots.specs.declared.slot.Slot.{Slot}
use Rattle.s3_slots.specs.Header.{are_quotas, is_region, are_regions, regions, region_of, accepted, mounted}
use Rattle.s3_slots.specs.declared.header.Header.{Header}
use Rattle.s3_labels.specs.Inner.Areas.{Areas, ArePlaced, IsReady, region_at, slots_at, with_slots}
use Rattle.s3_labels.proofs.Mounts.{tested, mounted_itself}

-- whole tracks after the spool blocks, all of them on the pack
pub record IsRegion (sectors : ℕ) (region : Stretch) : Type 0 where
  pub low : 168 ≤ region.start
  pub whole : IsWhole region
  pub high : end_of region ≤ sectors

tested_parts : (q r f : Bool) (header other : Header) → tested q r f header ≡ Ok other → (r ≡ true) × (f ≡ false)
tested_parts false r f header other h = absurd cc
tested_parts true false f header other h = absurd cc
tested_parts true true true header other h = absurd cc
tested_parts true true false header other h = (refl, refl)

region_parts : (total : ℕ) (region : Stretch) (sectors : ℕ) → is_region total region ≡ true → total ≤ sectors → IsRegion sectors region
region_parts total region sectors h few =
    let a = and_parts (nat_le 168 region.start && (region.start % 24 == 0) && (region.sectors % 24 == 0)) (nat_le (end_of region) total) h in
    let b = and_parts (nat_le 168 region.start && (region.start % 24 == 0)) (region.sectors % 24 == 0) a.0 in
    let c = and_parts (nat_le 168 region.start) (region.start % 24 == 0) b.0 in
    record {
      low = leb-true 168 region.start c.0;
      whole = (eqb-true (region.start % 24) 0 c.1, eqb-true (region.sectors % 24) 0 b.1);
      high = omega (arith, leb-true (end_of region) total a.1, few);
    }

pub record HasRegions (sectors : ℕ) (header : Header) : Type 0 where
  pub masters : IsRegion sectors header.masters
  pub level_one : IsRegion sectors header.level_one
  pub level_two : IsRegion sectors header.level_two
  pub apart : are_apart (regions header) ≡ true

pub accepted_regions : (sectors : ℕ) (header : Header) → accepted sectors (Some header) ≡ Ok header → HasRegions sectors header
accepted_regions sectors header h =
    let parts = tested_parts (are_quotas header.quota_one header.quota_two) (are_regions header) (nat_lt sectors header.total) header header h in
    let few = ltb-false sectors header.total parts.1 in
    let all = and_parts (list_all (is_region header.total) (regions header)) (are_apart (regions header)) parts.0 in
    let one = and_parts (is_region header.total header.masters) (list_all (is_region header.total) (header.level_one ∷ header.level_two ∷ [])) all.0 in
    let two = and_parts (is_region header.total header.level_one) (list_all (is_region header.total) (header.level_two ∷ [])) one.1 in
    let three = and_parts (is_region header.total header.level_two) true two.1 in
    record {
      masters = region_parts header.total header.masters sectors one.0 few;
      level_one = region_parts header.total header.level_one sectors two.0 few;
      level_two = region_parts header.total header.level_two sectors three.0 few;
      apart = all.1;
    }

pub ready_region : (level : LevelId) (areas : Areas) (contents : List (List ℕ)) → IsReady areas contents → IsRegion (length contents) (region_at level areas)
ready_region One areas contents ready = (accepted_regions (length contents) areas.header ready.header).level_one
ready_region Two areas contents ready = (accepted_regions (length contents) areas.header ready.header).level_two

pub ready_room : (areas : Areas) (contents : List (List ℕ)) → IsReady areas contents → 25 ≤ length contents
ready_room areas contents ready = let r = (accepted_regions (length contents) areas.header ready.header).masters in omega (arith, r.low, r.high)

own_after : (level other : LevelId) (slots : List Slot) (areas : Areas) → AreKept (region_at level areas) slots → ((l : LevelId) → AreKept (region_at l areas) (slots_at l areas))
    → AreKept (region_at other (with_slots level slots areas)) (slots_at other (with_slots level slots areas))
own_after One One slots areas kept own = kept
own_after One Two slots areas kept own = own Two
own_after Two One slots areas kept own = own One
own_after Two Two slots areas kept own = kept

pub ready_set : (level : LevelId) (slots : List Slot) (areas : Areas) (before after : List (List ℕ)) → IsReady areas before → AreKept (region_at level areas) slots → length after ≡ length before
    → IsReady (with_slots level slots areas) after
ready_set One slots areas before after ready kept count = record { header = rw count ready.header; few = rw count ready.few; own = λ other. own_after One other slots areas kept ready.own; masters = ready.masters }
ready_set Two slots areas before after ready kept count = record { header = rw count ready.header; few = rw count ready.few; own = λ other. own_after Two other slots areas kept ready.own; masters = ready.masters }

pub region_fits : (level : LevelId) (areas : Areas) (contents : List (List ℕ)) (region : Stretch) → IsReady areas contents → region ≡ region_at level areas → end_of region ≤ 65535
region_fits level areas contents region ready is =
    let r = ready_region level areas contents ready in
    rw is (omega (arith, r.high, ready.few))

pub region_whole : (level : LevelId) (areas : Areas) (contents : List (List ℕ)) (region : Stretch) → IsReady areas contents → region ≡ region_at level areas → IsWhole region
region_whole level areas contents region ready is = rw is (ready_region level areas contents ready).whole

pub mounted_region : (header : Header) (contents : List (List ℕ)) → mounted contents ≡ Ok header → IsRegion (length contents) header.level_one
mounted_region header contents h = (accepted_regions (length contents) header (mounted_itself contents header h)).level_one

-- ---- sector by sector
region_placed : (sectors : ℕ) (region : Stretch) (n : ℕ) → IsRegion sectors region → IsIn region n → (168 ≤ n) × (n < sectors)
region_placed sectors region n is has = (omega (arith, is.low, has.0), omega (arith, is.high, has.1))

pub accepted_placed : (sectors : ℕ) (header : Header) → accepted sectors (Some header) ≡ Ok header → ArePlaced header sectors
accepted_placed sectors header h =
    let is = accepted_regions sectors header h in
    let first = and_parts (is_apart_from_all header.masters (header.level_one ∷ header.level_two ∷ [])) (are_apart (header.level_one ∷ header.level_two ∷ [])) is.apart in
    let one = and_parts (is_apart header.masters header.level_one) (is_apart_from_all header.masters (header.level_two ∷ [])) first.0 in
    let two = and_parts (is_apart header.masters header.level_two) true one.1 in
    let second = and_parts (is_apart_from_all header.level_one (header.level_two ∷ [])) (are_apart (header.level_two ∷ [])) first.1 in
    let three = and_parts (is_apart header.level_one header.level_two) true second.0 in
    record {
      level = levels sectors header is;
      masters = λ n has. region_placed sectors header.masters n is.masters has;
      levels_apart = λ n a b. apart_sectors header.level_one header.level_two n three.0 a.0 a.1 b.0 b.1;
      masters_apart = masters_from header one.0 two.0;
    }
  where
    levels : (sectors : ℕ) (header : Header) → HasRegions sectors header → (level : LevelId) (n : ℕ) → IsIn (region_of level header) n → (168 ≤ n) × (n < sectors)
    levels sectors header is One n has = region_placed sectors header.level_one n is.level_one has
    levels sectors header is Two n has = region_placed sectors header.level_two n is.level_two has

    masters_from : (header : Header) → is_apart header.masters header.level_one ≡ true → is_apart header.masters header.level_two ≡ true → (level : LevelId) (n : ℕ) → IsIn (region_of level header) n → IsIn header.masters n → ⊥
    masters_from header one two One n a b = apart_sectors header.masters header.level_one n one b.0 b.1 a.0 a.1
    masters_from header one two Two n a b = apart_sectors header.masters header.level_two n two b.0 b.1 a.0 a.1

-- ---- the labels of a pack that is ready
pub slot_on_pack : (level : LevelId) (areas : Areas) (contents : List (List ℕ)) (i : ℕ) (label : FileLabel) → slice_get (slots_at level areas) i ≡ Some (Sound label) → IsReady areas contents
    → IsOfPack (length contents) label
slot_on_pack level areas contents i label there ready = record {
  region = region_at level areas;
  within = (ready_region level areas contents ready).high;
  few = ready.few;
  formed = (ready.own level).formed i label there;
}

pub own_on_pack : (level : LevelId) (areas : Areas) (contents : List (List ℕ)) (name : Name) (label : FileLabel) → standing name (slots_at level areas) ≡ Present label → IsReady areas contents
    → IsOfPack (length contents) label
own_on_pack level areas contents name label stands ready =
    let at = present_at name (slots_at level areas) label stands in
    slot_on_pack level areas contents at.slot label at.there ready

pub master_on_pack : (areas : Areas) (contents : List (List ℕ)) (name : Name) (label : FileLabel) → standing name areas.masters ≡ Present label → IsReady areas contents → IsOfPack (length contents) label
master_on_pack areas contents name label stands ready =
    let at = present_at name areas.masters label stands in
    record {
      region = areas.header.masters;
      within = (accepted_regions (length contents) areas.header ready.header).masters.high;
      few = ready.few;
      formed = ready.masters.formed at.slot label at.there;
    }
