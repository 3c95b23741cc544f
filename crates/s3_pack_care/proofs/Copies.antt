-- A pack whose free slot got a file that is a copy.
use Rattle.std.proofs.Common.{◌≡◌, ℕ, zero, suc, ◌+◌, ◌*◌, ◌/◌, ◌%◌, ◌<◌, ◌≤◌, true, false, inl, inr, Option, List, length, nat_le, slice_get, Some, None, Ok, refl, sym, ap, ◌∙◌, subst, arith}
use Rattle.std.proofs.lemmas.Bool.{and_parts, leb-true}
use Rattle.std.proofs.lemmas.Option.{slice_get_within}
use Rattle.std.specs.List.{Contains}
use Rattle.s3_cards.specs.declared.levels.LevelId.TheVariants.{One, Two}
use Rattle.s3_cards.specs.Names.{is_name}
use Rattle.s3_cards.specs.declared.name.Name.{Name}
use Rattle.s3_store.specs.Bytes.{bytes_at, part}
use Rattle.s3_store.specs.Inner.Bytes.{with_piece}
use Rattle.s3_store.specs.declared.stretch.Stretch.{Stretch}
use Rattle.s3_store.proofs.SectorParts.{sector_bytes-same}
use Rattle.s3_slots.specs.Header.{mounted}
use Rattle.s3_slots.specs.Inner.Kept.{IsOfPack}
use Rattle.s3_slots.specs.Inner.Labels.{label_bytes}
use Rattle.s3_slots.specs.Labels.{sectors_of}
use Rattle.s3_slots.specs.Slots.{labels_at, slot_bytes, slots_of, standing}
use Rattle.s3_slots.specs.Stretches.{IsIn}
use Rattle.s3_slots.specs.declared.header.Format.{Format}
use Rattle.s3_slots.specs.declared.header.Header.{Header}
use Rattle.s3_slots.specs.declared.label.FileLabel.{FileLabel}
use Rattle.s3_slots.specs.declared.slot.Slot.{Slot}
use Rattle.s3_slots.specs.declared.slot.Slot.TheVariants.{Damaged, Free, Sound}
use Rattle.s3_slots.specs.declared.slot.Standing.{Standing}
use Rattle.s3_slots.specs.declared.slot.Standing.TheVariants.{Present}
use Rattle.s3_slots.proofs.Judging.{slots_kept}
use Rattle.s3_slots.proofs.Keeping.{formed_parts}
use Rattle.s3_slots.proofs.Makes.{present_at}
use Rattle.s3_slots.proofs.SlotLemmas.{key_fits}
use Rattle.s3_labels.specs.Inner.Areas.{ArePlaced, Areas, IsReady, areas_on, slots_in}
use Rattle.s3_labels.proofs.Labelled.{slots_kept as judged_alike}
use Rattle.s3_labels.proofs.MigratedPacks.{file_same}
use Rattle.s3_labels.proofs.Mounts.{mounted_itself}
use Rattle.s3_labels.proofs.Regions.{IsRegion, accepted_placed, accepted_regions}
use Rattle.s3_pack_check.specs.Inner.Damages.{first_damaged}
use Rattle.s3_pack_check.specs.Inner.Wrongs.{region_in}
use Rattle.s3_pack_check.proofs.Files.{area_on_pack, length_bytes, whole_part}
use Rattle.s3_pack_care.specs.Inner.Copied.{Forbids, IsCopy, IsFilled, IsFreeSector, IsRoom, IsSource, IsWith}
use Rattle.s3_pack_care.specs.Inner.Frames.{ChangesFile}
use Rattle.s3_pack_care.specs.Inner.Kept.{IsMounted, IsRelabelled, slot_on}
use Rattle.s3_pack_care.proofs.Deletes.{one_header}
use Rattle.s3_pack_care.proofs.Placed.{free_there, label_on_pack, label_room, slots_32, whole_at, written_is, written_there}
use Rattle.s3_pack_care.proofs.Refusals.{allowed, are_on}
use Rattle.s3_pack_care.proofs.Relabelled.{eq_or, file_behind, file_kept, in_region, mounted_same}

-- ---- the file that is read
pub on_pack_by_name : (area : ℕ) (areas : Areas) (contents : List (List ℕ)) (name : Name) (label : FileLabel) → area < 3 → standing name (slots_in area areas) ≡ Present label → IsReady areas contents → IsOfPack (length contents) label
on_pack_by_name area areas contents name label few stands ready =
    let at = present_at name (slots_in area areas) label stands in
    area_on_pack area areas contents at.slot label few at.there ready

pub stands_on : (area : ℕ) (areas : Areas) (contents : List (List ℕ)) (name : Name) (label : FileLabel) → IsMounted areas contents → standing name (slots_in area areas) ≡ Present label
    → (header : Header) → mounted contents ≡ Ok header → standing name (slots_in area (areas_on header contents)) ≡ Present label
stands_on area areas contents name label is stands header mounts =
    let same : areas ≡ areas_on header contents = is.judged ∙ ap (λ h. areas_on h contents) (one_header contents areas.header header is.mounts mounts) in
    sym (ap (λ (a : Areas). standing name (slots_in area a)) same) ∙ stands

pub area_region : (area : ℕ) (areas : Areas) (contents : List (List ℕ)) → area < 3 → IsReady areas contents → IsRegion (length contents) (region_in area areas)
area_region zero areas contents few ready = (accepted_regions (length contents) areas.header ready.header).masters
area_region (suc zero) areas contents few ready = (accepted_regions (length contents) areas.header ready.header).level_one
area_region (suc (suc n)) areas contents few ready = (accepted_regions (length contents) areas.header ready.header).level_two

-- what a label of a pack says of keys and records
pub source_key : (sectors : ℕ) (label : FileLabel) → IsOfPack sectors label → label.key_length ≤ 29
source_key sectors label is = key_fits label.organization label.record_length label.key_length label.key_start (formed_parts is.region label is.formed).key

pub source_length : (sectors : ℕ) (label : FileLabel) → IsOfPack sectors label → 1 ≤ label.record_length
source_length sectors label is = leb-true 1 label.record_length (and_parts (nat_le 1 label.record_length) (nat_le label.record_length 1024) (formed_parts is.region label is.formed).length).0

-- ---- files stay apart
module _ (header : Header) (contents : List (List ℕ)) (mounts : mounted contents ≡ Ok header) where
  placed : ArePlaced header (length contents)
  placed = accepted_placed (length contents) header (mounted_itself contents header mounts)

  in_area : (format : Format) (region : Stretch) (area slot i : ℕ) (label other : FileLabel) (n : ℕ) → slice_get (slots_of format region area contents) slot ≡ Some (Sound label)
      → slice_get (slots_of format region area contents) i ≡ Some (Sound other) → (i ≡ slot → ⊥) → Contains (sectors_of label) n → Contains (sectors_of other) n → ⊥
  in_area format region area slot i label other n there other_there differ has other_has =
      differ (sym ((slots_kept format region area contents).apart slot i label other n there other_there has other_has))

  masters : (i : ℕ) (label : FileLabel) (n : ℕ) → slot_on header contents 0 i ≡ Some (Sound label) → Contains (sectors_of label) n → IsIn header.masters n
  masters i label n there has = in_region header.format header.masters 0 i label contents n there has

  level_one : (i : ℕ) (label : FileLabel) (n : ℕ) → slot_on header contents 1 i ≡ Some (Sound label) → Contains (sectors_of label) n → IsIn header.level_one n
  level_one i label n there has = in_region header.format header.level_one 1 i label contents n there has

  level_two : (i : ℕ) (label : FileLabel) (n : ℕ) → slot_on header contents 2 i ≡ Some (Sound label) → Contains (sectors_of label) n → IsIn header.level_two n
  level_two i label n there has = in_region header.format header.level_two 2 i label contents n there has

  pub files_apart : (area slot a i : ℕ) (label other : FileLabel) (n : ℕ) → area < 3 → a < 3 → slot_on header contents area slot ≡ Some (Sound label) → slot_on header contents a i ≡ Some (Sound other)
      → (a ≡ area → i ≡ slot → ⊥) → Contains (sectors_of label) n → Contains (sectors_of other) n → ⊥
  files_apart zero slot zero i label other n few small there other_there differ has other_has =
      in_area header.format header.masters 0 slot i label other n there other_there (differ refl) has other_has
  files_apart (suc zero) slot (suc zero) i label other n few small there other_there differ has other_has =
      in_area header.format header.level_one 1 slot i label other n there other_there (differ refl) has other_has
  files_apart (suc (suc zero)) slot (suc (suc zero)) i label other n few small there other_there differ has other_has =
      in_area header.format header.level_two 2 slot i label other n there other_there (differ refl) has other_has
  files_apart zero slot (suc zero) i label other n few small there other_there differ has other_has =
      placed.masters_apart One n (level_one i other n other_there other_has) (masters slot label n there has)
  files_apart zero slot (suc (suc zero)) i label other n few small there other_there differ has other_has =
      placed.masters_apart Two n (level_two i other n other_there other_has) (masters slot label n there has)
  files_apart (suc zero) slot zero i label other n few small there other_there differ has other_has =
      placed.masters_apart One n (level_one slot label n there has) (masters i other n other_there other_has)
  files_apart (suc (suc zero)) slot zero i label other n few small there other_there differ has other_has =
      placed.masters_apart Two n (level_two slot label n there has) (masters i other n other_there other_has)
  files_apart (suc zero) slot (suc (suc zero)) i label other n few small there other_there differ has other_has =
      placed.levels_apart n (level_one slot label n there has) (level_two i other n other_there other_has)
  files_apart (suc (suc zero)) slot (suc zero) i label other n few small there other_there differ has other_has =
      placed.levels_apart n (level_one i other n other_there other_has) (level_two slot label n there has)
  files_apart (suc (suc (suc k))) slot a i label other n few small there other_there differ has other_has = absurd (omega (arith, few))
  files_apart area slot (suc (suc (suc k))) i label other n few small there other_there differ has other_has = absurd (omega (arith, small))

-- ---- the slots after a write that changes no label
pub slot_stays : (header : Header) (old new : List (List ℕ)) (a i : ℕ) → a < 3 → ((n : ℕ) → n < 168 → slice_get new n ≡ slice_get old n) → slot_on header new a i ≡ slot_on header old a i
slot_stays header old new zero i few same = ap (λ slots. slice_get slots i) (judged_alike header.format header.masters 0 old new (λ n is. same n (omega (arith, is.1))))
slot_stays header old new (suc zero) i few same = ap (λ slots. slice_get slots i) (judged_alike header.format header.level_one 1 old new (λ n is. same n (omega (arith, is.1))))
slot_stays header old new (suc (suc zero)) i few same = ap (λ slots. slice_get slots i) (judged_alike header.format header.level_two 2 old new (λ n is. same n (omega (arith, is.1))))
slot_stays header old new (suc (suc (suc n))) i few same = absurd (omega (arith, few))

-- ---- the room of a copy
file_region : (header : Header) (contents : List (List ℕ)) (area i : ℕ) (label : FileLabel) (n : ℕ) → area < 3 → slot_on header contents area i ≡ Some (Sound label) → Contains (sectors_of label) n → IsIn (region_in area (areas_on header contents)) n
file_region header contents zero i label n few there has = in_region header.format header.masters 0 i label contents n there has
file_region header contents (suc zero) i label n few there has = in_region header.format header.level_one 1 i label contents n there has
file_region header contents (suc (suc zero)) i label n few there has = in_region header.format header.level_two 2 i label contents n there has
file_region header contents (suc (suc (suc k))) i label n few there has = absurd (omega (arith, few))

regions_apart : (header : Header) (one other : List (List ℕ)) (sectors area a n : ℕ) → ArePlaced header sectors → area < 3 → a < 3 → (a ≡ area → ⊥) → IsIn (region_in area (areas_on header one)) n → IsIn (region_in a (areas_on header other)) n → ⊥
regions_apart header one other sectors zero zero n placed few small differ mine its = differ refl
regions_apart header one other sectors (suc zero) (suc zero) n placed few small differ mine its = differ refl
regions_apart header one other sectors (suc (suc zero)) (suc (suc zero)) n placed few small differ mine its = differ refl
regions_apart header one other sectors zero (suc zero) n placed few small differ mine its = placed.masters_apart One n its mine
regions_apart header one other sectors zero (suc (suc zero)) n placed few small differ mine its = placed.masters_apart Two n its mine
regions_apart header one other sectors (suc zero) zero n placed few small differ mine its = placed.masters_apart One n mine its
regions_apart header one other sectors (suc (suc zero)) zero n placed few small differ mine its = placed.masters_apart Two n mine its
regions_apart header one other sectors (suc zero) (suc (suc zero)) n placed few small differ mine its = placed.levels_apart n mine its
regions_apart header one other sectors (suc (suc zero)) (suc zero) n placed few small differ mine its = placed.levels_apart n its mine
regions_apart header one other sectors (suc (suc (suc k))) a n placed few small differ mine its = absurd (omega (arith, few))
regions_apart header one other sectors area (suc (suc (suc k))) n placed few small differ mine its = absurd (omega (arith, small))

slot_few : (header : Header) (contents : List (List ℕ)) (a i : ℕ) (slot : Slot) → a < 3 → slot_on header contents a i ≡ Some slot → i < 32
slot_few header contents zero i slot few there = let low = slice_get_within (slots_of header.format header.masters 0 contents) i slot there in omega (arith, low, slots_32 header.format header.masters 0 contents)
slot_few header contents (suc zero) i slot few there = let low = slice_get_within (slots_of header.format header.level_one 1 contents) i slot there in omega (arith, low, slots_32 header.format header.level_one 1 contents)
slot_few header contents (suc (suc zero)) i slot few there = let low = slice_get_within (slots_of header.format header.level_two 2 contents) i slot there in omega (arith, low, slots_32 header.format header.level_two 2 contents)
slot_few header contents (suc (suc (suc k))) i slot few there = absurd (omega (arith, few))

-- the sectors of a file whose label was written into a free slot of an area without damage
module _ (area slot : ℕ) (bytes : List ℕ) (header : Header) (old labelled : List (List ℕ)) (label : FileLabel) (area_in : area < 3) (undamaged : first_damaged (slots_in area (areas_on header old)) ≡ None)
    (free : slot_on header old area slot ≡ Some Free) (is : IsRelabelled area slot bytes header old labelled) (there : slot_on header labelled area slot ≡ Some (Sound label)) where
  no_file : (n : ℕ) → Contains (sectors_of label) n → (a i : ℕ) (other : FileLabel) → a < 3 → slot_on header old a i ≡ Some (Sound other) → Contains (sectors_of other) n → ⊥
  no_file n has a i other few stands its =
      let differ : a ≡ area → i ≡ slot → ⊥ = λ same_area same_slot.
      let both : Some (Sound other) ≡ Some Free = sym stands ∙ ap (λ m. slot_on header old m i) same_area ∙ ap (slot_on header old area) same_slot ∙ free in
      absurd cc in
      let stays = is.others a i (record { area_in = few; slot_in = slot_few header old a i (Sound other) few stands; other = differ }) in
      files_apart header labelled is.mounts area slot a i label other n area_in few there (stays ∙ stands) differ has its

  no_damage : (n : ℕ) → Contains (sectors_of label) n → (a i : ℕ) (name : Option Name) → a < 3 → slot_on header old a i ≡ Some (Damaged name) → IsIn (region_in a (areas_on header old)) n → ⊥
  no_damage n has a i name few stands its = elim (eq_or a area) [
    | inl same ↦
        let here : slice_get (slots_in area (areas_on header old)) i ≡ Some (Damaged name) = sym (ap (λ m. slot_on header old m i) same) ∙ stands in
        let whole : true ≡ false = whole_at 0 (slots_in area (areas_on header old)) i (Damaged name) undamaged here in
        absurd cc
    | inr differ ↦ regions_apart header labelled old (length labelled) area a n (placed header labelled is.mounts) area_in few differ (file_region header labelled area slot label n area_in there has) its
  ]

  pub room_free : (n : ℕ) → Contains (sectors_of label) n → IsFreeSector header old n
  room_free n has a i Free few stands holds = holds
  room_free n has a i (Sound other) few stands holds = no_file n has a i other few stands holds
  room_free n has a i (Damaged name) few stands holds = no_damage n has a i name few stands holds

-- a slot that was written, and its file filled
pub with_copy : (area slot : ℕ) (name : Name) (source : FileLabel) (bytes piece : List ℕ) (header : Header) (old labelled new : List (List ℕ)) → area < 3 → slot < 32 → mounted old ≡ Ok header
    → first_damaged (slots_in area (areas_on header old)) ≡ None → slot_on header old area slot ≡ Some Free → IsRelabelled area slot piece header old labelled → (fills : IsFilled area slot name source bytes header labelled new)
    → piece ≡ label_bytes fills.label → IsWith area slot name source bytes header old new
with_copy area slot name source bytes piece header old labelled new area_in slot_in mounts undamaged free is fills written =
    let low : (n : ℕ) → n < 168 → slice_get new n ≡ slice_get labelled n = λ n few. fills.sectors n (λ has.
    let behind = file_behind header labelled area slot fills.label n is.mounts area_in fills.there has in omega (arith, behind, few)) in
    record {
      mounts = mounted_same labelled new fills.count (low 0 (omega arith)) ∙ is.mounts;
      was_free = free;
      label = fills.label;
      there = slot_stays header labelled new area slot area_in low ∙ fills.there;
      written =
          ap (λ sector. part sector (slot % 4 * 64) 64)
          (sector_bytes-same labelled new (labels_at area + slot / 4) (low (labels_at area + slot / 4) (omega (arith, slot_in, area_in))))
          ∙ is.own ∙ written;
      like = fills.like;
      room = room_free area slot piece header old labelled fills.label area_in undamaged free is fills.there;
      filled = fills.filled;
      others = λ a i other.
          let kept = file_kept area slot piece header old labelled area_in slot_in mounts is a i other in
          record {
            slot = slot_stays header labelled new a i other.area_in low ∙ kept.slot;
            bytes = λ one there.
                file_same one new labelled (λ n has. sector_bytes-same labelled new n (fills.sectors n (λ mine.
                files_apart header labelled is.mounts area slot a i fills.label one n area_in other.area_in fills.there (kept.slot ∙ there) other.other mine has)))
                ∙ kept.bytes one there;
          };
    }

-- ---- the steps of a copy
pub source_read : (area : ℕ) (areas : Areas) (contents : List (List ℕ)) (name : Name) (label : FileLabel) (bytes : List ℕ) (now : List Slot) (found : Standing) → area < 3 → now ≡ slots_in area areas
    → found ≡ standing name now → found ≡ Present label → IsMounted areas contents → IsReady areas contents → bytes ≡ bytes_at (sectors_of label) contents → IsSource area name label bytes contents
source_read area areas contents name label bytes now found few slots is present mounted_as ready same =
    let stands : standing name (slots_in area areas) ≡ Present label = sym (is ∙ ap (standing name) slots) ∙ present in
    record {
      stands = stands_on area areas contents name label mounted_as stands;
      mounts = are_on areas contents (λ a. standing name (slots_in area a) ≡ Present label) mounted_as stands;
      on_pack = on_pack_by_name area areas contents name label few stands ready;
      has = same;
    }

pub written_whole : (label : FileLabel) (sectors bytes : List ℕ) (new : List (List ℕ)) → sectors ≡ sectors_of label → length bytes ≡ 256 * length (sectors_of label)
    → part (bytes_at sectors new) 0 (length bytes) ≡ bytes → bytes_at (sectors_of label) new ≡ bytes
written_whole label sectors bytes new same room written =
    sym (whole_part (bytes_at (sectors_of label) new) (length bytes) (length_bytes new (sectors_of label) ∙ sym room)) ∙ ap (λ s. part (bytes_at s new) 0 (length bytes)) (sym same) ∙ written

pub written_sectors : (label : FileLabel) (sectors : List ℕ) (old new : List (List ℕ)) → sectors ≡ sectors_of label → ((n : ℕ) → ¬ Contains sectors n → slice_get new n ≡ slice_get old n)
    → (n : ℕ) → ¬ Contains (sectors_of label) n → slice_get new n ≡ slice_get old n
written_sectors label sectors old new same kept n out = kept n (λ has. out (subst (λ (s : List ℕ). Contains s n) same has))

-- ---- a copy
-- what a label that is written for a copy leaves, and the file that is filled then
module _ (area slot sectors : ℕ) (name : Name) (source label : FileLabel) (bytes : List ℕ) (areas : Areas) (old : List (List ℕ)) (area_in : area < 3) (slot_in : slot < 32) (is : IsMounted areas old) (ready : IsReady areas old)
    (read : IsOfPack sectors source) (codes : length name.codes ≡ 8) (named : is_name name.codes ≡ true) (date : length source.date ≡ 6) (room : IsRoom area name source areas slot label) where
  abbrev header : Header
  header = areas.header

  ready_here : IsReady (areas_on header old) old
  ready_here = subst (λ (a : Areas). IsReady a old) is.judged ready

  room_here : IsRoom area name source (areas_on header old) slot label
  room_here = subst (λ (a : Areas). IsRoom area name source a slot label) is.judged room

  region_here : IsRegion (length old) (region_in area (areas_on header old))
  region_here = area_region area (areas_on header old) old area_in ready_here

  pub on_pack : IsOfPack (length old) label
  on_pack = label_on_pack area slot sectors name source label header old area_in slot_in is.mounts ready_here region_here read codes named date room_here

  pub as_many : length (sectors_of label) ≡ length (sectors_of source)
  as_many = label_room area slot sectors name source label header old area_in slot_in is.mounts ready_here region_here read codes named date room_here

  module _ (labelled after : List (List ℕ)) (width : length (label_bytes label) ≡ 64) (set : labelled ≡ with_piece old (labels_at area + slot / 4) (slot % 4 * 64) (label_bytes label)) (count : length labelled ≡ length old)
      (filled : bytes_at (sectors_of label) after ≡ bytes) (same : length after ≡ length labelled) (others : (n : ℕ) → ¬ Contains (sectors_of label) n → slice_get after n ≡ slice_get labelled n) where
    relabelled : IsRelabelled area slot (label_bytes label) header old labelled
    relabelled = written_is area slot sectors name source label header old area_in slot_in is.mounts ready_here region_here read codes named date room_here labelled (slot % 4) width refl set count

    label_there : slot_on header labelled area slot ≡ Some (Sound label)
    label_there = written_there area slot sectors name source label header old area_in slot_in is.mounts ready_here region_here read codes named date room_here labelled (slot % 4) width refl set count

    pub copied_with : IsWith area slot name source bytes header old after
    copied_with =
        with_copy area slot name source bytes (label_bytes label) header old labelled after area_in slot_in is.mounts room_here.undamaged (free_there (slots_in area (areas_on header old)) slot room_here.free) relabelled
        (record { label = label; there = label_there; like = room.labelled; filled = filled; count = same; sectors = others }) refl

    labels_stay : (i : ℕ) → i < 32 → (i ≡ slot → ⊥) → slot_bytes area after i ≡ slot_bytes area old i
    labels_stay i few differ =
        ap (λ sector. part sector (i % 4 * 64) 64)
        (sector_bytes-same labelled after (labels_at area + i / 4) (others (labels_at area + i / 4) (λ has.
        let behind = file_behind header labelled area slot label (labels_at area + i / 4) relabelled.mounts area_in label_there has in omega (arith, behind, few, area_in))))
        ∙ relabelled.labels area i (record { area_in = area_in; slot_in = few; other = λ _ e. differ e })

    pub copied_file : ChangesFile area name (λ i. ⊥) old after
    copied_file =
        let low : (n : ℕ) → n < 168 → slice_get after n ≡ slice_get labelled n = λ n few. others n (λ has.
        let behind = file_behind header labelled area slot label n relabelled.mounts area_in label_there has in omega (arith, behind, few)) in
        record {
          header = header;
          mounts = mounted_same labelled after same (low 0 (omega arith)) ∙ relabelled.mounts;
          slot = slot;
          label = label;
          there = slot_stays header labelled after area slot area_in low ∙ label_there;
          named = ap (λ (l : FileLabel). l.name) room.labelled;
          labels = λ i few differ none. labels_stay i few differ;
          sectors = λ n out none. others n none ∙ relabelled.sectors n (λ e. out (omega (arith, e, slot_in), omega (arith, e, slot_in)));
          long = same ∙ count;
        }

-- a copy in a mounted pack
module _ (from : List (List ℕ)) (from_area : ℕ) (name : Name) (area slot : ℕ) (new_name : Name) (source label : FileLabel) (bytes : List ℕ) (areas : Areas) (begun old labelled after : List (List ℕ))
    (area_in : area < 3) (slot_in : slot < 32) (read : IsSource from_area name source bytes from) (is : IsMounted areas begun) (ready : IsReady areas begun) (same : old ≡ begun) (codes : length new_name.codes ≡ 8)
    (named : is_name new_name.codes ≡ true) (date : length source.date ≡ 6) (room : IsRoom area new_name source areas slot label) (width : length (label_bytes label) ≡ 64)
    (set : labelled ≡ with_piece old (labels_at area + slot / 4) (slot % 4 * 64) (label_bytes label)) (count : length labelled ≡ length old) (filled : bytes_at (sectors_of label) after ≡ bytes) (long : length after ≡ length labelled)
    (others : (n : ℕ) → ¬ Contains (sectors_of label) n → slice_get after n ≡ slice_get labelled n) where
  set_here : labelled ≡ with_piece begun (labels_at area + slot / 4) (slot % 4 * 64) (label_bytes label)
  set_here = set ∙ ap (λ s. with_piece s (labels_at area + slot / 4) (slot % 4 * 64) (label_bytes label)) same

  pub copy_is : IsCopy from_area name area new_name from begun after
  copy_is = record {
    slot = slot;
    slot_in = slot_in;
    source = source;
    bytes = bytes;
    read = read;
    undamaged = are_on areas begun (λ a. first_damaged (slots_in area a) ≡ None) is room.undamaged;
    allowed = λ fault on.
        let headers : areas.header ≡ on.header = one_header begun areas.header on.header is.mounts on.mounts in
        let back : areas_on on.header begun ≡ areas = sym (is.judged ∙ ap (λ h. areas_on h begun) headers) in
        allowed area slot new_name source label areas named room fault (subst (λ (a : Areas). Forbids area new_name source a fault) back on.so);
    copied = λ header mounts.
        subst (λ (h : Header). IsWith area slot new_name source bytes h begun after) (one_header begun areas.header header is.mounts mounts)
        (copied_with area slot (length from) new_name source label bytes areas begun area_in slot_in is ready read.on_pack codes named date room labelled after width set_here (count ∙ ap length same) filled long others);
  }

  pub copy_file : ChangesFile area new_name (λ i. ⊥) begun after
  copy_file = copied_file area slot (length from) new_name source label bytes areas begun area_in slot_in is ready read.on_pack codes named date room labelled after width set_here (count ∙ ap length same) filled long others
