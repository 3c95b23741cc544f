-- The records of a file, in key order if it has an index.
use Rattle.std.specs.Prelude.{ℕ, ◌-◌, List, [], map, slice_index_or, if◌then◌else◌}
use Rattle.s3_slots.specs.Labels.{file_bytes, is_indexed}
use Rattle.s3_slots.specs.declared.label.FileLabel.{FileLabel}
use Rattle.s3_files.specs.Records.{records_in}
use Rattle.s3_keyed.specs.Index.{KeyPlace, keys_of, layout_of}
use Rattle.s3_keyed.specs.KeyOrder.{key_order}

-- the records in the order in which they were written
unfoldable pub in_order : FileLabel → List (List ℕ) → List (List ℕ)
in_order label contents = records_in label.record_length label.count (file_bytes label contents)

-- records in the order of their keys
unfoldable pub by_key : KeyPlace → List (List ℕ) → List (List ℕ)
by_key place records = map (λ entry. slice_index_or records (entry.number - 1) []) (key_order (keys_of place records))

abbrev pub by_key_of : FileLabel → List (List ℕ) → List (List ℕ)
by_key_of label contents = by_key (layout_of label).key (in_order label contents)

abbrev pub ordered : FileLabel → List (List ℕ) → List (List ℕ)
ordered label contents = if is_indexed label.organization then by_key_of label contents else in_order label contents
