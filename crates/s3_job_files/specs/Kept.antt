-- What an area has for a label: the records of its file, and whether its index is good.
use Rattle.std.specs.Prelude.{ℕ, Bool, true, List, [], if◌then◌else◌}
use Rattle.s3_slots.specs.Labels.{file_bytes, is_indexed}
use Rattle.s3_slots.specs.declared.label.FileLabel.{FileLabel}
use Rattle.s3_slots.specs.declared.slot.Standing.{Standing}
use Rattle.s3_slots.specs.declared.slot.Standing.TheVariants.{Present}
use Rattle.s3_files.specs.Records.{records_in}
use Rattle.s3_keyed.specs.Index.{KeyPlace, keys_of, index_in, layout_of}
use Rattle.s3_keyed.specs.KeyOrder.{is_good_index}

-- A good index is the key order of the records, so nothing else of it is needed. A file without an index has no bad index.
pub record Kept : Type 0 where
  pub records : List (List ℕ)
  pub has_good_index : Bool

abbrev pub nothing_kept : Kept
nothing_kept = record { records = []; has_good_index = true }

-- the place of the key in the records of a file
abbrev pub key_place : FileLabel → KeyPlace
key_place label = (layout_of label).key

unfoldable pub index_is_good : FileLabel → List (List ℕ) → List ℕ → Bool
index_is_good label records bytes =
    if is_indexed label.organization then is_good_index (index_in (layout_of label) label.count bytes) (keys_of (key_place label) records) else true

-- what these bytes have for a label
unfoldable pub kept_in : FileLabel → List ℕ → Kept
kept_in label bytes =
    let records : List (List ℕ) = records_in label.record_length label.count bytes in
    record { records = records; has_good_index = index_is_good label records bytes }

-- what the sectors have for a label
abbrev pub kept_on : FileLabel → List (List ℕ) → Kept
kept_on label contents = kept_in label (file_bytes label contents)

abbrev pub kept_under : List (List ℕ) → Standing → Kept
kept_under contents (Present label) = kept_on label contents
kept_under contents _ = nothing_kept
