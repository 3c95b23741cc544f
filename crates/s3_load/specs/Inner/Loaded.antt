-- A file of a pack that was loaded from a table, and what is unchanged on the pack.
use Rattle.std.specs.Prelude.{◌≡◌, ◌<◌, ◌⊎◌, ◌++◌, ◌==◌, ◌&&◌, ℕ, Bool, true, false, Option, Some, None, List, [], length, slice_get, Ok, ⊤, if◌then◌else◌}
use Rattle.std.specs.List.{Contains, list_any, position_from}
use Rattle.s3_cards.specs.declared.levels.LevelId.{LevelId}
use Rattle.s3_cards.specs.declared.name.Name.{Name}
use Rattle.s3_lines.specs.declared.sheet.KeyField.{KeyField}
use Rattle.s3_slots.specs.Header.{mounted, region_of}
use Rattle.s3_slots.specs.Labels.{is_indexed}
use Rattle.s3_slots.specs.Making.{dropped, is_permanent, new_label, tracks_of}
use Rattle.s3_slots.specs.Placement.{free_slot, placed}
use Rattle.s3_slots.specs.Slots.{bears, slot_bytes, standing}
use Rattle.s3_slots.specs.declared.header.Header.{Header}
use Rattle.s3_slots.specs.declared.label.FileLabel.{FileLabel}
use Rattle.s3_slots.specs.declared.label.Organization.{Organization}
use Rattle.s3_slots.specs.declared.label.Organization.TheVariants.{Indexed, Sequential}
use Rattle.s3_slots.specs.declared.making.NewFile.{NewFile}
use Rattle.s3_slots.specs.declared.making.Size.{Size}
use Rattle.s3_slots.specs.declared.making.Size.TheVariants.{Records, Tracks}
use Rattle.s3_slots.specs.declared.slot.Slot.{Slot}
use Rattle.s3_slots.specs.declared.slot.Slot.TheVariants.{Free, Sound}
use Rattle.s3_slots.specs.declared.slot.Standing.{Standing}
use Rattle.s3_slots.specs.declared.slot.Standing.TheVariants.{Absent, Blocked, Present}
use Rattle.s3_labels.specs.Areas.{IsLabelSector, area_of}
use Rattle.s3_labels.specs.Inner.Areas.{areas_on, slots_at}
use Rattle.s3_files.specs.Inner.Files.{file_of}
use Rattle.s3_unload.specs.Inner.Ordered.{in_order}
use Rattle.s3_pack_check.specs.Inner.Damages.{is_damaged}
use Rattle.s3_pack_care.specs.Inner.Frames.{ChangesFile, IsInLabelled, IsInSlot, IsOfFile}
use Rattle.s3_pack_care.specs.Inner.Kept.{IsOther, KeepsFile, slot_on}
use Rattle.s3_pack_care.specs.Inner.Rows.{KeepsTail}
use Rattle.s3_load.specs.declared.order.Order.{Order}
use Rattle.s3_load.specs.declared.order.Room.{Room}
use Rattle.s3_load.specs.declared.order.Room.TheVariants.{ForTable, Records as ForRecords, Tracks as ForTracks}
use Rattle.s3_load.specs.declared.rows.Row.{Row}
use Rattle.s3_load.specs.Inner.Filling.{HasGoodIndex, KeepsSpare, counted, records_of}
use Rattle.s3_load.specs.Inner.Tables.{IsTable}

-- ---- the ordered file
-- a file has the key of the F card; without one, the file is sequential
abbrev pub has_key_by : Option KeyField → Organization → (key_length key_start : ℕ) → Bool
has_key_by None Sequential key_length key_start = true
has_key_by (Some key) Indexed key_length key_start = (key_length == key.length) && (key_start == key.start)
has_key_by _ _ key_length key_start = false

abbrev pub has_key : Option KeyField → FileLabel → Bool
has_key key label = has_key_by key label.organization label.key_length label.key_start

-- the file has the label, the record length and the key of the order
pub record IsAsked (order : Order) (label : FileLabel) : Type 0 where
  pub named : label.name ≡ order.name
  pub long : label.record_length ≡ order.layout.now.record_length
  pub keyed : has_key order.key label ≡ true

-- the same statement for a file that must be made
pub record IsNewOf (order : Order) (new : NewFile) : Type 0 where
  pub named : new.name ≡ order.name
  pub long : new.record_length ≡ order.layout.now.record_length
  pub keyed : has_key_by order.key new.organization new.key_length new.key_start ≡ true
  pub retained : new.retention ≡ order.retention
  pub dated : new.date ≡ order.date

-- the records of the existing file, in the order in which they were written
abbrev pub records_under : Standing → List (List ℕ) → List (List ℕ)
records_under (Present label) contents = in_order label contents
records_under Absent contents = []
records_under Blocked contents = []

-- the records before the loaded ones: those of the level's file of that label, if the order appends to it
abbrev pub records_before : Order → Header → List (List ℕ) → List (List ℕ)
records_before order header contents = if order.appends then records_under (standing order.name (slots_at order.level (areas_on header contents))) contents else []

-- ---- what becomes of the slots
-- slot i of an area has the file of that label, and a new file replaces it
pub record IsReplaced (order : Order) (header : Header) (contents : List (List ℕ)) (a i : ℕ) : Type 0 where
  pub anew : order.appends ≡ false
  pub own : a ≡ area_of order.level
  pub place : position_from (bears order.name) 0 (slots_at order.level (areas_on header contents)) ≡ Some i

-- The other slots and files, given the slot of the loaded file: the slot of a replaced file is free. Each other slot is unchanged, and its
-- file has the same bytes.
pub record KeepsOthers (order : Order) (slot : ℕ) (header : Header) (old new : List (List ℕ)) : Type 0 where
  pub kept : (a i : ℕ) → IsOther (area_of order.level) slot a i → ¬ IsReplaced order header old a i → KeepsFile header old new a i
  pub freed : (a i : ℕ) → IsOther (area_of order.level) slot a i → IsReplaced order header old a i → slot_on header new a i ≡ Some Free

-- ---- the slot of the file
-- A new file may replace the file of its label, if that isn't permanent. A damaged slot of that label can't be replaced.
abbrev pub MayBeReplaced : Standing → Type 0
MayBeReplaced Absent = ⊤
MayBeReplaced Blocked = ⊥
MayBeReplaced (Present label) = is_permanent label.retention ≡ false

-- A make gives this slot to a new file: the lowest that is free without the old file of its label. So the slot was free, or it had the
-- old file. The old file may be replaced, and no master has the label.
pub record IsVacant (order : Order) (header : Header) (old : List (List ℕ)) (slot : ℕ) : Type 0 where
  pub lowest : free_slot (dropped order.name (slots_at order.level (areas_on header old))) ≡ Some slot
  pub was : (slot_on header old (area_of order.level) slot ≡ Some Free) ⊎ IsReplaced order header old (area_of order.level) slot
  pub replaceable : MayBeReplaced (standing order.name (slots_at order.level (areas_on header old)))
  pub unmastered : list_any (bears order.name) (areas_on header old).masters ≡ false

-- the label has the retention and the date of the order
pub record IsKeptFor (order : Order) (label : FileLabel) : Type 0 where
  pub retained : label.retention ≡ order.retention
  pub dated : label.date ≡ order.date

-- the size of a new file: the tracks or records of the order, or space for the table's records, at least one
abbrev pub at_least_one : ℕ → ℕ
at_least_one count = if count == 0 then 1 else count

abbrev pub size_asked : Room → (count : ℕ) → Size
size_asked ForTable count = Records (at_least_one count)
size_asked (ForRecords records) count = Records records
size_asked (ForTracks tracks) count = Tracks tracks

-- A new file has the capacity that a make gives for that size, and the extents in which a make places it: the lowest that are free.
pub record HasSpace (order : Order) (count : ℕ) (header : Header) (old : List (List ℕ)) (label : FileLabel) : Type 0 where
  pub new : NewFile
  pub sized : new.size ≡ size_asked order.room count
  pub is : label ≡ counted (new_label new label.extents) label.count
  pub extents : placed header.format (region_of order.level header) (dropped order.name (slots_at order.level (areas_on header old))) (tracks_of new) ≡ Some label.extents

-- the file was in this slot before, and only the count of its label has changed
pub record IsContinued (order : Order) (header : Header) (old : List (List ℕ)) (slot : ℕ) (label : FileLabel) : Type 0 where
  pub before : FileLabel
  pub was : slot_on header old (area_of order.level) slot ≡ Some (Sound before)
  pub same : label ≡ counted before label.count

abbrev pub is_damaged_at : Option Slot → Bool
is_damaged_at (Some slot) = is_damaged slot
is_damaged_at None = false

-- no slot of the level's area is damaged
abbrev pub HasNoDamage : Order → Header → List (List ℕ) → Type 0
HasNoDamage order header contents = (i : ℕ) → i < 32 → is_damaged_at (slot_on header contents (area_of order.level) i) ≡ false

-- ---- what stays
-- Each slot of the level has the same bytes, except for the file's slot and the slot of a replaced file. Of the sectors without a label of
-- the level, only the file's own change.
pub record KeepsRest (order : Order) (slot : ℕ) (own : List ℕ) (header : Header) (old new : List (List ℕ)) : Type 0 where
  pub labels : (i : ℕ) → i < 32 → (i ≡ slot → ⊥) → ¬ IsReplaced order header old (area_of order.level) i → slot_bytes (area_of order.level) new i ≡ slot_bytes (area_of order.level) old i
  pub sectors : (n : ℕ) → ¬ IsLabelSector (area_of order.level) n → ¬ Contains own n → slice_get new n ≡ slice_get old n

-- a pack with the file, on which everything else is unchanged
abbrev pub ChangesLoaded : Order → Header → (old new : List (List ℕ)) → Type 0
ChangesLoaded order header old new = ChangesFile (area_of order.level) order.name (IsReplaced order header old (area_of order.level)) old new

-- byte k of a pack is in the slot of the replaced file
pub record IsInReplaced (order : Order) (contents : List (List ℕ)) (k : ℕ) : Type 0 where
  pub header : Header
  pub mounts : mounted contents ≡ Ok header
  pub slot : ℕ
  pub gone : IsReplaced order header contents (area_of order.level) slot
  pub at : IsInSlot (area_of order.level) slot k

-- byte k is in the loaded file, in its slot, or in the slot of the replaced file
abbrev pub IsOfLoad : Order → (old new : List (List ℕ)) → (k : ℕ) → Type 0
IsOfLoad order old new k = IsInLabelled (area_of order.level) order.name new k ⊎ IsInReplaced order old k

-- Without an index, the loaded file keeps the bytes after its last record, to the end of its sectors. With an index, it keeps each byte
-- of its sectors that is in no record and in no entry. So a new file has there the bytes that these sectors had before.
abbrev pub KeepsLoadedTail : Order → (old new : List (List ℕ)) → Type 0
KeepsLoadedTail order old new = IsOfFile (area_of order.level) order.name new (λ slot label. (is_indexed label.organization ≡ false → KeepsTail (file_of label) old new) × (is_indexed label.organization ≡ true → KeepsSpare label label.count old new))

-- ---- steps
-- the ordered file is in a slot: a new one without records, if no slot was damaged, or the existing one
pub record IsPlaced (order : Order) (header : Header) (old new : List (List ℕ)) (label : FileLabel) : Type 0 where
  pub slot : ℕ
  pub slot_in : slot < 32
  pub there : slot_on header new (area_of order.level) slot ≡ Some (Sound label)
  pub asked : IsAsked order label
  pub begins : in_order label new ≡ records_before order header old
  pub vacant : order.appends ≡ false → IsVacant order header old slot
  pub kept : order.appends ≡ false → IsKeptFor order label
  pub continued : order.appends ≡ true → IsContinued order header old slot label
  pub others : KeepsOthers order slot header old new
  pub undamaged : order.appends ≡ false → HasNoDamage order header old
  pub rest : KeepsRest order slot [] header old new

-- the label of a level's file has another count, and nothing else has changed
pub record IsCounted (level : LevelId) (name : Name) (count : ℕ) (header : Header) (old new : List (List ℕ)) : Type 0 where
  pub mounts : mounted new ≡ Ok header
  pub slot : ℕ
  pub label : FileLabel
  pub was : slot_on header old (area_of level) slot ≡ Some (Sound label)
  pub named : label.name ≡ name
  pub there : slot_on header new (area_of level) slot ≡ Some (Sound (counted label count))
  pub others : (a i : ℕ) → IsOther (area_of level) slot a i → slot_on header new a i ≡ slot_on header old a i
  pub labels : (i : ℕ) → (i ≡ slot → ⊥) → slot_bytes (area_of level) new i ≡ slot_bytes (area_of level) old i
  pub sectors : (n : ℕ) → ¬ IsLabelSector (area_of level) n → slice_get new n ≡ slice_get old n

-- ---- a pack with a loaded file
-- A slot of the level's area has the ordered file: a new one where a make puts it, or the existing one. Its records are the earlier ones,
-- if the order appends, and then the loaded ones. An index is that of all its records.
pub record HasFile (order : Order) (added : List (List ℕ)) (header : Header) (old new : List (List ℕ)) : Type 0 where
  pub mounts : mounted new ≡ Ok header
  pub slot : ℕ
  pub slot_in : slot < 32
  pub label : FileLabel
  pub there : slot_on header new (area_of order.level) slot ≡ Some (Sound label)
  pub asked : IsAsked order label
  pub records : in_order label new ≡ records_before order header old ++ added
  pub index : is_indexed label.organization ≡ true → HasGoodIndex label new
  pub vacant : order.appends ≡ false → IsVacant order header old slot
  pub kept : order.appends ≡ false → IsKeptFor order label
  pub space : order.appends ≡ false → HasSpace order (length added) header old label
  pub continued : order.appends ≡ true → IsContinued order header old slot label
  pub others : KeepsOthers order slot header old new
  pub undamaged : order.appends ≡ false → HasNoDamage order header old

-- The pack has the records of a table in the ordered file, if the bytes of the table are known.
pub record IsLoaded (order : Order) (text : Option (List ℕ)) (old new : List (List ℕ)) : Type 0 where
  pub rows : List Row
  pub table : (bytes : List ℕ) → text ≡ Some bytes → IsTable bytes order.delimiter order.layout.now.record_length order.layout.now.fields.items order.fills order.chosen.now order.key rows
  pub header : Header
  pub mounts : mounted old ≡ Ok header
  pub filled : HasFile order (records_of rows) header old new

-- The pack has these records in the ordered file.
pub record HasRecords (order : Order) (added : List (List ℕ)) (old new : List (List ℕ)) : Type 0 where
  pub header : Header
  pub mounts : mounted old ≡ Ok header
  pub filled : HasFile order added header old new
