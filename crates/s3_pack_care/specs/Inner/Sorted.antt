-- Records in the order of their keys, a pack with a sorted file, and when sorting is refused.
use Rattle.std.specs.Prelude.{◌≡◌, ◌<◌, ℕ, Bool, true, false, List, length, slice_index_or, Some, Ok, Err, ⊤}
use Rattle.std.specs.List.{All, Contains, filter}
use Rattle.std.specs.List.Sorted.{IsPermutation, IsSortedByKey, ties}
use Rattle.std.specs.Cmp.Lexicographic.{slice_cmp}
use Rattle.std.specs.Ordering.{is_lt, nat_cmp}
use Rattle.s3_slots.specs.Header.{mounted}
use Rattle.s3_slots.specs.Inner.Making.{refusal}
use Rattle.s3_slots.specs.Labels.{file_bytes}
use Rattle.s3_slots.specs.Slots.{standing}
use Rattle.s3_slots.specs.declared.header.Header.{Header}
use Rattle.s3_slots.specs.declared.label.FileLabel.{FileLabel}
use Rattle.s3_slots.specs.declared.label.Organization.{Organization}
use Rattle.s3_slots.specs.declared.label.Organization.TheVariants.{Direct, Indexed, Sequential}
use Rattle.s3_slots.specs.declared.slot.Slot.TheVariants.{Sound}
use Rattle.s3_slots.specs.declared.slot.Standing.TheVariants.{Present}
use Rattle.s3_cards.specs.declared.name.Name.{Name}
use Rattle.s3_labels.specs.Inner.Areas.{areas_on, slots_in}
use Rattle.s3_files.specs.Inner.Files.{file_of, records}
use Rattle.s3_pack_care.specs.Inner.Kept.{AreOn, slot_on}
use Rattle.s3_pack_care.specs.declared.fault.CareFault.{CareFault}
use Rattle.s3_pack_care.specs.declared.fault.CareFault.TheVariants.{Label as LabelOfCare, Mount as MountOfCare}
use Rattle.s3_pack_care.specs.Inner.Keys.{fits, key_of}
use Rattle.s3_pack_care.specs.Inner.Rows.{KeepsTail}
use Rattle.s3_pack_care.specs.declared.sort_fault.SortFault.{SortFault}
use Rattle.s3_pack_care.specs.declared.sort_fault.SortFault.TheVariants.{Field, Label, Mount, NoMemory, NotInOrder}
use Rattle.s3_pack_care.specs.declared.fields.SortField.{SortField}

-- one record comes before another: at the first different number of their keys, its number is less
abbrev pub comes_before : (key : List ℕ → List ℕ) → List ℕ → List ℕ → Bool
comes_before key one other = is_lt (slice_cmp nat_cmp (key one) (key other))

-- the same records, sorted by key; records with equal keys keep their order
pub record IsArranged (key : List ℕ → List ℕ) (old new : List (List ℕ)) : Type 0 where
  pub same : IsPermutation old new
  pub ordered : IsSortedByKey key (slice_cmp nat_cmp) new
  pub stable : (one : List ℕ) → Contains old one → filter (ties (comes_before key) one) new ≡ filter (ties (comes_before key) one) old

-- the records of a file
abbrev pub records_of : FileLabel → List (List ℕ) → List (List ℕ)
records_of label contents = records (file_of label) contents

-- ---- a pack with a sorted file
-- the records of one file are sorted by fields that are all in them, and everything else on the pack is unchanged
pub record IsSortedIn (area : ℕ) (name : Name) (fields : List SortField) (header : Header) (old new : List (List ℕ)) : Type 0 where
  pub mounts : mounted new ≡ Ok header
  pub slots : (a i : ℕ) → a < 3 → slot_on header new a i ≡ slot_on header old a i
  pub slot : ℕ
  pub label : FileLabel
  pub stands : standing name (slots_in area (areas_on header old)) ≡ Present label
  pub there : slot_on header old area slot ≡ Some (Sound label)
  pub in_order : label.organization ≡ Sequential
  pub within : All (λ field. fits field label.record_length ≡ true) fields
  pub sorted : IsArranged (key_of fields) (records_of label old) (records_of label new)
  pub tail : KeepsTail (file_of label) old new
  pub others : (a i : ℕ) (other : FileLabel) → a < 3 → slot_on header old a i ≡ Some (Sound other) → (a ≡ area → i ≡ slot → ⊥) → file_bytes other new ≡ file_bytes other old

-- a mounted pack in which the file of a label of an area is sorted
pub record IsSorted (area : ℕ) (name : Name) (fields : List SortField) (old new : List (List ℕ)) : Type 0 where
  pub header : Header
  pub is_mounted : mounted old ≡ Ok header
  pub sorted : IsSortedIn area name fields header old new

-- ---- when sorting is refused
-- the first field that doesn't fit records of this length
pub record IsFirstMisfit (fields : List SortField) (record_length place : ℕ) : Type 0 where
  pub within : place < length fields
  pub misfit : (other : SortField) → fits (slice_index_or fields place other) record_length ≡ false
  pub before : (k : ℕ) (other : SortField) → k < place → fits (slice_index_or fields k other) record_length ≡ true

abbrev pub are_in_order : Organization → Bool
are_in_order Sequential = true
are_in_order Indexed = false
are_in_order Direct = false

-- why records can't be sorted: the file isn't sequential, or a field isn't in the records; or memory ran out
abbrev pub RefusesFile : List SortField → FileLabel → SortFault → Type 0
RefusesFile fields label NotInOrder = are_in_order label.organization ≡ false
RefusesFile fields label (Field place record_length) = (record_length ≡ label.record_length) × IsFirstMisfit fields record_length place
RefusesFile fields label NoMemory = ⊤
RefusesFile fields label _ = ⊥

-- the file exists and can't be sorted
pub record IsUnsortable (area : ℕ) (name : Name) (fields : List SortField) (contents : List (List ℕ)) (fault : SortFault) : Type 0 where
  pub label : FileLabel
  pub stands : AreOn contents (λ areas. standing name (slots_in area areas) ≡ Present label)
  pub refuses : RefusesFile fields label fault

-- why a file of a pack isn't sorted; or memory ran out
abbrev pub RefusesSort : (area : ℕ) → Name → List SortField → List (List ℕ) → SortFault → Type 0
RefusesSort area name fields contents (Mount fault) = mounted contents ≡ Err fault
RefusesSort area name fields contents (Label fault) = AreOn contents (λ areas. refusal (standing name (slots_in area areas)) ≡ Some fault)
RefusesSort area name fields contents NoMemory = ⊤
RefusesSort area name fields contents fault = IsUnsortable area name fields contents fault

-- an error of the pack's header is one of sorting too
abbrev pub of_care : CareFault → SortFault
of_care (MountOfCare fault) = Mount fault
of_care (LabelOfCare fault) = Label fault
of_care _ = NoMemory
