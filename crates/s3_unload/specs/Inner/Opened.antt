-- The records of an open file.
use Rattle.std.specs.Prelude.{◌≡◌, ℕ, true, false, List, ⊤}
use Rattle.s3_store.specs.Bytes.{bytes_at}
use Rattle.s3_slots.specs.Labels.{is_indexed, sectors_of}
use Rattle.s3_slots.specs.declared.label.FileLabel.{FileLabel}
use Rattle.s3_files.specs.declared.sequential.Sequential.{Sequential}
use Rattle.s3_keyed.specs.Index.{index_in, layout_of}
use Rattle.s3_keyed.specs.KeyOrder.{is_good_index}
use Rattle.s3_keyed.specs.Inner.Index.{keys_at}
use Rattle.s3_keyed.specs.Inner.Keyed.{HasKeyOrder, opened_of, shown}
use Rattle.s3_keyed.specs.declared.keyed.Keyed.{Keyed}
use Rattle.s3_unload.specs.declared.ordered.Records.{Records}
use Rattle.s3_unload.specs.declared.ordered.Records.TheVariants.{InOrder, ByKey}
use Rattle.s3_unload.specs.declared.fault.UnloadFault.{UnloadFault}
use Rattle.s3_unload.specs.declared.fault.UnloadFault.TheVariants.{Mount, NotFound, DamagedLabel, BadIndex, OtherLength, Hidden, NoCharacter, NoMemory, File}

-- the file of the label, without an index
pub record IsPlain (label : FileLabel) (file : Sequential) : Type 0 where
  pub sectors : file.sectors ≡ sectors_of label
  pub record_length : file.record_length ≡ label.record_length
  pub count : file.count ≡ label.count

-- the file of the label, with a good index
pub record IsKeyed (label : FileLabel) (contents : List (List ℕ)) (file : Keyed) : Type 0 where
  pub opened : shown file ≡ opened_of (sectors_of label) (layout_of label) label.count
  pub key_order : HasKeyOrder (shown file) contents

pub record IsOpenedInOrder (label : FileLabel) (file : Sequential) : Type 0 where
  pub plain : is_indexed label.organization ≡ false
  pub file_is : IsPlain label file

pub record IsOpenedByKey (label : FileLabel) (contents : List (List ℕ)) (file : Keyed) : Type 0 where
  pub indexed : is_indexed label.organization ≡ true
  pub file_is : IsKeyed label contents file

abbrev pub IsOpened : FileLabel → List (List ℕ) → Records → Type 0
IsOpened label contents (InOrder file) = IsOpenedInOrder label file
IsOpened label contents (ByKey file) = IsOpenedByKey label contents file

-- the index isn't the key order of the records, or memory ran out
abbrev pub IsOpenRefusal : FileLabel → List (List ℕ) → UnloadFault → Type 0
IsOpenRefusal label contents BadIndex =
    is_good_index (index_in (layout_of label) label.count (bytes_at (sectors_of label) contents)) (keys_at (layout_of label) label.count (bytes_at (sectors_of label) contents)) ≡ false
IsOpenRefusal label contents NoMemory = ⊤
IsOpenRefusal label contents (Mount fault) = ⊥
IsOpenRefusal label contents NotFound = ⊥
IsOpenRefusal label contents DamagedLabel = ⊥
IsOpenRefusal label contents (OtherLength long) = ⊥
IsOpenRefusal label contents (Hidden number field fault) = ⊥
IsOpenRefusal label contents (NoCharacter number position) = ⊥
IsOpenRefusal label contents File = ⊥
