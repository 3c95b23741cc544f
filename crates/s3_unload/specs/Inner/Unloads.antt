-- Files written out as tables, and why they aren't.
use Rattle.std.specs.Prelude.{◌≡◌, ◌≢◌, ◌+◌, ◌-◌, ℕ, true, false, List, length, Option, Some, slice_get, ⊤}
use Rattle.std.specs.List.{list_all}
use Rattle.std.specs.Io.KnownBytes.{Appends}
use Rattle.s3_cards.specs.declared.name.Name.{Name}
use Rattle.s3_slots.specs.declared.label.FileLabel.{FileLabel}
use Rattle.s3_cells.specs.declared.field.Field.{Field}
use Rattle.s3_cells.specs.declared.layout.Layout.{Layout}
use Rattle.s3_record_types.specs.Inner.Chosen.{chosen_of, is_chosen}
use Rattle.s3_record_types.specs.declared.chosen.ChosenRecords.{ChosenRecords}
use Rattle.s3_unload.specs.Inner.Found.{IsFound}
use Rattle.s3_unload.specs.Inner.Opened.{IsOpenRefusal}
use Rattle.s3_unload.specs.Inner.Ordered.{in_order, ordered}
use Rattle.s3_unload.specs.Inner.Refusals.{IsFindRefusal}
use Rattle.s3_unload.specs.Inner.Tables.{are_shown, table_text}
use Rattle.s3_labels.specs.declared.area.Area.{Area}
use Rattle.s3_unload.specs.declared.fault.UnloadFault.{UnloadFault}
use Rattle.s3_unload.specs.declared.fault.UnloadFault.TheVariants.{Mount, NotFound, DamagedLabel, BadIndex, OtherLength, Hidden, NoCharacter, NoMemory, File}

-- The file of the label in the area was written after the earlier output: a heading, and a row for each of its chosen records, in key
-- order if it has an index. Each value of them can be shown. So many records aren't chosen.
pub record Unloads (area : Area) (name : Name) (layout : Layout) (chosen : ChosenRecords) (delimiter others : ℕ) (contents : List (List ℕ)) (old new : Option (List ℕ)) : Type 0 where
  pub label : FileLabel
  pub found : IsFound area name contents label
  pub fits : label.record_length ≡ layout.record_length
  pub shown : list_all (are_shown layout.fields.items) (chosen_of chosen (ordered label contents)) ≡ true
  pub written : Appends old new (table_text delimiter layout.fields.items (chosen_of chosen (ordered label contents)))
  pub counted : others + length (chosen_of chosen (ordered label contents)) ≡ length (ordered label contents)

-- of records in the order in which they were written, number n, from 1, is chosen, and has a value that can't be shown
pub record HasHidden (fields : List Field) (chosen : ChosenRecords) (records : List (List ℕ)) (number : ℕ) : Type 0 where
  pub bytes : List ℕ
  pub there : slice_get records (number - 1) ≡ Some bytes
  pub is_meant : is_chosen chosen bytes ≡ true
  pub hidden : are_shown fields bytes ≡ false

-- rows aren't all written: a value can't be shown, or memory was refused
abbrev pub IsRowsRefusal : List Field → ChosenRecords → List (List ℕ) → UnloadFault → Type 0
IsRowsRefusal fields chosen records (Hidden number field fault) = HasHidden fields chosen records number
IsRowsRefusal fields chosen records NoMemory = ⊤
IsRowsRefusal fields chosen records BadIndex = ⊥
IsRowsRefusal fields chosen records (Mount fault) = ⊥
IsRowsRefusal fields chosen records NotFound = ⊥
IsRowsRefusal fields chosen records DamagedLabel = ⊥
IsRowsRefusal fields chosen records (OtherLength long) = ⊥
IsRowsRefusal fields chosen records (NoCharacter number position) = ⊥
IsRowsRefusal fields chosen records File = ⊥

-- the row of record n, from 0, isn't written
abbrev pub IsRowRefusal : ℕ → List Field → List ℕ → UnloadFault → Type 0
IsRowRefusal n fields bytes (Hidden number field fault) = (number ≡ n + 1) × (are_shown fields bytes ≡ false)
IsRowRefusal n fields bytes NoMemory = ⊤
IsRowRefusal n fields bytes BadIndex = ⊥
IsRowRefusal n fields bytes (Mount fault) = ⊥
IsRowRefusal n fields bytes NotFound = ⊥
IsRowRefusal n fields bytes DamagedLabel = ⊥
IsRowRefusal n fields bytes (OtherLength long) = ⊥
IsRowRefusal n fields bytes (NoCharacter number position) = ⊥
IsRowRefusal n fields bytes File = ⊥

-- an existing file isn't written for this reason
pub record Refuses (area : Area) (name : Name) (contents : List (List ℕ)) (cause : FileLabel → Type 0) : Type 0 where
  pub label : FileLabel
  pub found : IsFound area name contents label
  pub is_so : cause label

-- the file isn't written: by the pack alone, or for want of memory, or since the writer failed
abbrev pub IsUnloadRefusal : Area → Name → Layout → ChosenRecords → List (List ℕ) → UnloadFault → Type 0
IsUnloadRefusal area name layout chosen contents (Mount fault) = IsFindRefusal area name contents (Mount fault)
IsUnloadRefusal area name layout chosen contents NotFound = IsFindRefusal area name contents NotFound
IsUnloadRefusal area name layout chosen contents DamagedLabel = IsFindRefusal area name contents DamagedLabel
IsUnloadRefusal area name layout chosen contents (OtherLength long) = Refuses area name contents (λ label. (long ≡ label.record_length) × (label.record_length ≢ layout.record_length))
IsUnloadRefusal area name layout chosen contents BadIndex = Refuses area name contents (λ label. IsOpenRefusal label contents BadIndex)
IsUnloadRefusal area name layout chosen contents (Hidden number field fault) = Refuses area name contents (λ label. HasHidden layout.fields.items chosen (in_order label contents) number)
IsUnloadRefusal area name layout chosen contents (NoCharacter number position) = ⊥
IsUnloadRefusal area name layout chosen contents NoMemory = ⊤
IsUnloadRefusal area name layout chosen contents File = ⊤
