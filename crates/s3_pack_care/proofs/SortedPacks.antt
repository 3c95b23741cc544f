-- A pack in which a file was sorted.
use Rattle.std.proofs.Common.{◌≡◌, ℕ, ◌<◌, true, All, List, length, slice_get, Ok, sym, ap, ◌∙◌, subst, arith}
use Rattle.s3_cards.specs.declared.name.Name.{Name}
use Rattle.s3_store.proofs.SectorParts.{sector_bytes-same}
use Rattle.s3_slots.specs.Header.{mounted}
use Rattle.s3_slots.specs.Labels.{sectors_of}
use Rattle.s3_slots.specs.Slots.{standing}
use Rattle.s3_slots.specs.declared.header.Header.{Header}
use Rattle.s3_slots.specs.declared.label.FileLabel.{FileLabel}
use Rattle.s3_slots.specs.declared.label.Organization.TheVariants.{Sequential}
use Rattle.s3_slots.specs.declared.slot.Standing.TheVariants.{Present}
use Rattle.s3_slots.proofs.Makes.{present_at}
use Rattle.s3_labels.specs.Inner.Areas.{Areas, areas_on, slots_in}
use Rattle.s3_labels.proofs.MigratedPacks.{file_same}
use Rattle.s3_files.specs.Inner.Files.{file_of}
use Rattle.s3_pack_care.specs.Inner.Kept.{IsMounted}
use Rattle.s3_pack_care.proofs.Copies.{files_apart, slot_stays, stands_on}
use Rattle.s3_pack_care.proofs.Named.{present_named}
use Rattle.s3_pack_care.proofs.Relabelled.{file_behind, mounted_same}
use Rattle.s3_pack_care.specs.Inner.Frames.{ChangesRecords}
use Rattle.s3_pack_care.specs.Inner.Keys.{fits, key_of}
use Rattle.s3_pack_care.specs.Inner.Rows.{ChangesSectors, KeepsTail}
use Rattle.s3_pack_care.specs.Inner.Sorted.{IsArranged, IsSortedIn, records_of}
use Rattle.s3_pack_care.specs.declared.fields.SortField.{SortField}

sorted_in : (area : ℕ) (name : Name) (fields : List SortField) (header : Header) (label : FileLabel) (areas : Areas) (old new : List (List ℕ)) → area < 3 → IsMounted areas old → mounted old ≡ Ok header
    → standing name (slots_in area areas) ≡ Present label → label.organization ≡ Sequential → All (λ field. fits field label.record_length ≡ true) fields → IsArranged (key_of fields) (records_of label old) (records_of label new) → length new ≡ length old
    → ChangesSectors (sectors_of label) old new → KeepsTail (file_of label) old new → IsSortedIn area name fields header old new
sorted_in area name fields header label areas old new area_in is mounts stands in_order within sorted count kept tail =
    let here : standing name (slots_in area (areas_on header old)) ≡ Present label = stands_on area areas old name label is stands header mounts in
    let at = present_at name (slots_in area (areas_on header old)) label here in
    let low : (n : ℕ) → n < 168 → slice_get new n ≡ slice_get old n = λ n few. kept n (λ has.
    let behind = file_behind header old area at.slot label n mounts area_in at.there has in omega (arith, behind, few)) in
    record {
      mounts = mounted_same old new count (low 0 (omega arith)) ∙ mounts;
      slots = λ a i small. slot_stays header old new a i small low;
      slot = at.slot;
      label = label;
      stands = here;
      there = at.there;
      in_order = in_order;
      within = within;
      sorted = sorted;
      tail = tail;
      others = λ a i other small there differ.
          file_same other new old (λ n has. sector_bytes-same old new n (kept n (λ mine. files_apart header old mounts area at.slot a i label other n area_in small at.there there differ mine has)));
    }

-- a file that was sorted in a mounted pack
module _ (area : ℕ) (name : Name) (label : FileLabel) (areas : Areas) (begun old new : List (List ℕ)) (area_in : area < 3) (is : IsMounted areas begun) (same : old ≡ begun)
    (stands : standing name (slots_in area areas) ≡ Present label) (kept : ChangesSectors (sectors_of label) old new) (count : length new ≡ length old) where
  pub sorted_is : (fields : List SortField) → label.organization ≡ Sequential → All (λ field. fits field label.record_length ≡ true) fields → IsArranged (key_of fields) (records_of label old) (records_of label new)
      → KeepsTail (file_of label) old new → IsSortedIn area name fields areas.header begun new
  sorted_is fields in_order within sorted tail =
      subst (λ (o : List (List ℕ)). IsSortedIn area name fields areas.header o new) same
      (sorted_in area name fields areas.header label areas old new area_in (subst (λ (s : List (List ℕ)). IsMounted areas s) (sym same) is) (ap mounted same ∙ is.mounts) stands in_order within sorted count kept tail)

  pub sorted_only : ChangesRecords area name begun new
  sorted_only =
      let at = present_at name (slots_in area (areas_on areas.header begun)) label (stands_on area areas begun name label is stands areas.header is.mounts) in
      record {
        header = areas.header;
        mounts = is.mounts;
        slot = at.slot;
        label = label;
        there = at.there;
        named = present_named name (slots_in area areas) label stands;
        sectors = λ n out. kept n out ∙ ap (λ c. slice_get c n) same;
        long = count ∙ ap length same;
      }
