-- The records of a file of the running job: which record a request is for, and what is put into it.
use Rattle.std.specs.Prelude.{ℕ, zero, suc, ◌-◌, ℤ, pos, negsuc, nat_lt, List, [], ◌∷◌, length, take, slice_get, Option, Some, None, Result, Ok, Err, if◌then◌else◌}
use Rattle.s3_slots.specs.Labels.{is_indexed}
use Rattle.s3_slots.specs.declared.label.FileLabel.{FileLabel}
use Rattle.s3_operator.specs.declared.halt_code.HaltCode.{HaltCode}
use Rattle.s3_operator.specs.declared.halt_code.HaltCode.TheVariants.{DuplicateKey, FileFull, KeyChanged as KeyChangedHalt, KeyNotAscending, NothingToUpdate}
use Rattle.s3_meaning.specs.Requests.{Sought, Key, RecordNumber}
use Rattle.s3_meaning.specs.declared.current.Current.{Current}
use Rattle.s3_meaning.specs.declared.current.Current.TheVariants.{NthRead, LastChained}
use Rattle.s3_files.specs.declared.fault.FileFault.{FileFault}
use Rattle.s3_files.specs.Records.{with_record, with_last}
use Rattle.s3_keyed.specs.declared.fault.KeyedFault.{KeyedFault}
use Rattle.s3_keyed.specs.declared.fault.KeyedFault.TheVariants.{Duplicate, Full, KeyChanged, NotAscending}
use Rattle.s3_keyed.specs.KeyOrder.{number_of}
use Rattle.s3_keyed.specs.Index.{keys_of}
use Rattle.s3_keyed.specs.Calls.{place_of_key, nth_by_key, with_added, with_loaded, with_updated}
use Rattle.s3_job_files.specs.Kept.{key_place}

-- ---- records by their places
-- the place of the n-th of the records that the file had at the job's start, from 0: in key order, or in the order of the file
abbrev pub place_read : FileLabel → List (List ℕ) → ℕ → Option ℕ
place_read label records n =
    if nat_lt n label.count
    then (if is_indexed label.organization then nth_by_key (keys_of (key_place label) (take label.count records)) n else Some n)
    else None

-- a record number is counted from 1
abbrev pub place_numbered : ℕ → ℤ → Option ℕ
place_numbered count (pos zero) = None
place_numbered count (pos (suc place)) = if nat_lt place count then Some place else None
place_numbered count (negsuc n) = None

-- the place of the record with this key or number; records that the job added count too
abbrev pub place_sought : FileLabel → List (List ℕ) → Sought → Option ℕ
place_sought label records (Key bytes) = place_of_key (number_of bytes) (keys_of (key_place label) records)
place_sought label records (RecordNumber number) = place_numbered (length records) number

-- the place of the current record: the n-th that the program read, from 1, or the one that CHAIN read last
abbrev pub place_current : FileLabel → List (List ℕ) → (chained : Option ℕ) → Option Current → Option ℕ
place_current label records chained None = None
place_current label records chained (Some (NthRead n)) = place_read label records (n - 1)
place_current label records chained (Some LastChained) = chained

-- ---- what is put into a file
abbrev pub halt_for_key : KeyedFault → HaltCode
halt_for_key Duplicate = DuplicateKey
halt_for_key NotAscending = KeyNotAscending
halt_for_key KeyChanged = KeyChangedHalt
halt_for_key Full = FileFull
halt_for_key _ = NothingToUpdate

abbrev pub by_key : Result (List (List ℕ)) KeyedFault → Result (List (List ℕ)) HaltCode
by_key (Ok records) = Ok records
by_key (Err fault) = Err (halt_for_key fault)

abbrev pub in_order : HaltCode → Result (List (List ℕ)) FileFault → Result (List (List ℕ)) HaltCode
in_order code (Ok records) = Ok records
in_order code (Err fault) = Err code

-- a load: an indexed file takes ascending keys
abbrev pub appended : FileLabel → List ℕ → List (List ℕ) → Result (List (List ℕ)) HaltCode
appended label bytes records =
    if is_indexed label.organization
    then by_key (with_loaded (key_place label) label.capacity bytes records)
    else in_order FileFull (with_last label.capacity bytes records)

-- an addition: no record may have the key
abbrev pub added : FileLabel → List ℕ → List (List ℕ) → Result (List (List ℕ)) HaltCode
added label bytes records = by_key (with_added (key_place label) label.capacity bytes records)

-- the bytes of a record after new bytes are put at some positions
abbrev pub overlaid : List (Option ℕ) → List ℕ → List ℕ
overlaid [] old = old
overlaid (change ∷ changes) [] = []
overlaid (None ∷ changes) (byte ∷ old) = byte ∷ overlaid changes old
overlaid (Some put ∷ changes) (byte ∷ old) = put ∷ overlaid changes old

abbrev pub updated_at : FileLabel → ℕ → List ℕ → List (List ℕ) → Result (List (List ℕ)) HaltCode
updated_at label place bytes records =
    if is_indexed label.organization
    then by_key (with_updated (key_place label) place bytes records)
    else in_order NothingToUpdate (with_record place bytes records)

abbrev pub updated_over : FileLabel → List (Option ℕ) → ℕ → List (List ℕ) → Option (List ℕ) → Result (List (List ℕ)) HaltCode
updated_over label changes place records None = Err NothingToUpdate
updated_over label changes place records (Some old) = updated_at label place (overlaid changes old) records

-- the current record with these changes, over its present bytes
abbrev pub updated : FileLabel → List (Option ℕ) → Option ℕ → List (List ℕ) → Result (List (List ℕ)) HaltCode
updated label changes None records = Err NothingToUpdate
updated label changes (Some place) records = updated_over label changes place records (slice_get records place)
