-- The records in the bytes of a file, and a list of records with one replaced or appended.
use Rattle.std.specs.Prelude.{ℕ, ◌*◌, nat_lt, List, [], ◌∷◌, ◌++◌, length, map, slice_set, Result, Ok, Err, if◌then◌else◌}
use Rattle.std.specs.List.{range_with_len}
use Rattle.s3_store.specs.Bytes.{part}
use Rattle.s3_files.specs.declared.fault.FileFault.{FileFault}
use Rattle.s3_files.specs.declared.fault.FileFault.TheVariants.{NoRecord, Full}

-- the first parts of so many bytes that begin at these places
abbrev pub parts : (place : ℕ → ℕ) (width count : ℕ) → List ℕ → List (List ℕ)
parts place width count bytes = map (λ i. part bytes (place i) width) (range_with_len 0 count)

-- the first so many records in a file's bytes, end to end
unfoldable pub records_in : (record_length count : ℕ) → List ℕ → List (List ℕ)
records_in record_length count bytes = parts (λ i. i * record_length) record_length count bytes

abbrev pub with_record : ℕ → List ℕ → List (List ℕ) → Result (List (List ℕ)) FileFault
with_record i bytes records = if nat_lt i (length records) then Ok (slice_set records i bytes) else Err NoRecord

abbrev pub with_last : (capacity : ℕ) → List ℕ → List (List ℕ) → Result (List (List ℕ)) FileFault
with_last capacity bytes records = if nat_lt (length records) capacity then Ok (records ++ bytes ∷ []) else Err Full
