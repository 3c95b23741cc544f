-- The calls of an indexed file, as calls of a list of records and its key order.
use Rattle.std.specs.Prelude.{ℕ, ◌-◌, ◌==◌, nat_eq, nat_lt, List, Option, Some, None, slice_get, Result, Ok, Err, if◌then◌else◌}
use Rattle.std.specs.List.{list_all, list_any, position_from}
use Rattle.s3_files.specs.declared.fault.FileFault.{FileFault}
use Rattle.s3_files.specs.declared.fault.FileFault.TheVariants.{NoRecord, Full as FileFull, Pool as FilePool}
use Rattle.s3_files.specs.Records.{with_record, with_last}
use Rattle.s3_keyed.specs.KeyOrder.{Entry, key_order}
use Rattle.s3_keyed.specs.Index.{KeyPlace, key_of, keys_of}
use Rattle.s3_keyed.specs.declared.fault.KeyedFault.{KeyedFault}
use Rattle.s3_keyed.specs.declared.fault.KeyedFault.TheVariants.{NoKey, Duplicate, Full, KeyChanged, NotAscending, Pool}

-- the place of the record with that key, from 0
abbrev pub place_of_key : ℕ → List ℕ → Option ℕ
place_of_key key keys = position_from (nat_eq key) 0 keys

abbrev pub place_in : Option Entry → Option ℕ
place_in None = None
place_in (Some entry) = Some (entry.number - 1)

-- the place of the n-th record by key, both from 0
unfoldable pub nth_by_key : List ℕ → ℕ → Option ℕ
nth_by_key keys n = place_in (slice_get (key_order keys) n)

-- the refusal of a file of records, as one of an indexed file
abbrev pub keyed_fault : FileFault → KeyedFault
keyed_fault NoRecord = NoKey
keyed_fault FileFull = Full
keyed_fault (FilePool fault) = Pool fault

abbrev pub keyed_result : {T : Type 0} → Result T FileFault → Result T KeyedFault
keyed_result (Ok value) = Ok value
keyed_result (Err fault) = Err (keyed_fault fault)

-- a record is added with a key that no other record has
unfoldable pub with_added : KeyPlace → (capacity : ℕ) → List ℕ → List (List ℕ) → Result (List (List ℕ)) KeyedFault
with_added place capacity bytes records =
    if list_any (nat_eq (key_of place bytes)) (keys_of place records) then Err Duplicate else keyed_result (with_last capacity bytes records)

-- a record is loaded with a key above all others
unfoldable pub with_loaded : KeyPlace → (capacity : ℕ) → List ℕ → List (List ℕ) → Result (List (List ℕ)) KeyedFault
with_loaded place capacity bytes records =
    if list_all (λ key. nat_lt key (key_of place bytes)) (keys_of place records) then keyed_result (with_last capacity bytes records) else Err NotAscending

abbrev pub updated_from : KeyPlace → ℕ → List ℕ → List (List ℕ) → Option (List ℕ) → Result (List (List ℕ)) KeyedFault
updated_from place i bytes records None = Err NoKey
updated_from place i bytes records (Some old) =
    if key_of place bytes == key_of place old then keyed_result (with_record i bytes records) else Err KeyChanged

-- a record is changed, but its key stays
unfoldable pub with_updated : KeyPlace → ℕ → List ℕ → List (List ℕ) → Result (List (List ℕ)) KeyedFault
with_updated place i bytes records = updated_from place i bytes records (slice_get records i)
