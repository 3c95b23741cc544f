-- A file one record of which is amended.
use Rattle.std.specs.Prelude.{◌≡◌, ◌*◌, ℕ, Bool, true, false, List, length, slice_get, slice_set, Some, Ok}
use Rattle.s3_store.specs.Inner.Bytes.{SameOutside}
use Rattle.s3_slots.specs.Header.{mounted}
use Rattle.s3_slots.specs.Labels.{file_bytes}
use Rattle.s3_slots.specs.Slots.{standing}
use Rattle.s3_slots.specs.declared.header.Header.{Header}
use Rattle.s3_slots.specs.declared.label.FileLabel.{FileLabel}
use Rattle.s3_slots.specs.declared.slot.Standing.TheVariants.{Present}
use Rattle.s3_labels.specs.Inner.AreaNumbers.{area_number}
use Rattle.s3_labels.specs.Inner.Areas.{areas_on, slots_in}
use Rattle.s3_cells.specs.declared.field.Field.{Field}
use Rattle.s3_record_types.specs.Inner.Chosen.{is_of}
use Rattle.s3_record_types.specs.declared.chosen.ChosenRecords.{ChosenRecords}
use Rattle.s3_record_types.specs.declared.chosen.ChosenRecords.TheVariants.{All, OfType}
use Rattle.s3_unload.specs.Inner.Ordered.{in_order}
use Rattle.s3_load.specs.Inner.Columns.{LieApart}
use Rattle.s3_load.specs.Inner.Records.{HasTaken}
use Rattle.s3_amend.specs.Inner.Meant.{IsMeant}
use Rattle.s3_amend.specs.Inner.Settings.{AreNamed, values_of}
use Rattle.s3_amend.specs.declared.amending.AmendedRecord.{AmendedRecord}
use Rattle.s3_amend.specs.declared.amendment.Amendment.{Amendment}

-- a record is of the type that is chosen; if none is chosen, it is of none
abbrev pub is_of_type : ChosenRecords → List ℕ → Bool
is_of_type All bytes = false
is_of_type (OfType indicator kinds) bytes = is_of indicator kinds.items bytes

-- a record in which the fields that settings name have got their values, and no other byte has changed; it was of the chosen type, and is
pub record AmendsRecord (amendment : Amendment) (label : FileLabel) (before after : List ℕ) : Type 0 where
  pub fields : List Field
  pub named : AreNamed amendment.layout.now.fields.items label amendment.settings.now (length amendment.settings.now) fields
  pub apart : LieApart fields
  pub taken : HasTaken fields (values_of amendment.settings.now) before (length fields) after
  pub was_of_type : is_of_type amendment.chosen.now before ≡ true
  pub is_still_of_type : is_of_type amendment.chosen.now after ≡ true

-- The file of a label has the same records, except for the one that is meant: that one is amended. No other byte of the file has changed.
pub record AmendsFile (amendment : Amendment) (label : FileLabel) (amended : AmendedRecord) (old new : List (List ℕ)) : Type 0 where
  pub fits : label.record_length ≡ amendment.layout.now.record_length
  pub is_meant : IsMeant amendment.which amendment.layout.now.fields.items label (in_order label old) amended.place
  pub there : slice_get (in_order label old) amended.place ≡ Some amended.before.items
  pub record_is : AmendsRecord amendment label amended.before.items amended.after.items
  pub records : in_order label new ≡ slice_set (in_order label old) amended.place amended.after.items
  pub others : SameOutside (amended.place * label.record_length) label.record_length (file_bytes label old) (file_bytes label new)

-- the file of the amendment's label in its area is that one
pub record IsAmended (amendment : Amendment) (amended : AmendedRecord) (old new : List (List ℕ)) : Type 0 where
  pub header : Header
  pub mounts : mounted old ≡ Ok header
  pub label : FileLabel
  pub stands : standing amendment.name (slots_in (area_number amendment.area) (areas_on header old)) ≡ Present label
  pub file : AmendsFile amendment label amended old new
