-- What is put is refused for no other cause than its request may be.
use Rattle.std.proofs.Common.{◌≡◌, ℕ, Bool, true, false, nat_lt, ◌==◌, nat_eq, List, [], ◌∷◌, ◌++◌, length, refl, ap, sym, ◌∙◌}
use Rattle.std.specs.Prelude.{slice_get, slice_set, Option, Some, None, Result, Ok, Err, IfOk, if◌then◌else◌}
use Rattle.std.specs.List.{list_all, list_any}
use Rattle.s3_store.specs.declared.sector_fault.SectorFault.{SectorFault}
use Rattle.s3_slots.specs.Labels.{is_indexed}
use Rattle.s3_slots.specs.declared.label.FileLabel.{FileLabel}
use Rattle.s3_operator.specs.declared.halt_code.HaltCode.{HaltCode}
use Rattle.s3_operator.specs.declared.halt_code.HaltCode.TheVariants.{DuplicateKey, FileFull, KeyChanged as KeyChangedHalt, KeyNotAscending, NothingToUpdate}
use Rattle.s3_meaning.specs.Inner.Requests.{fits_done, refuses_append, refuses_add, refuses_update}
use Rattle.s3_files.specs.declared.fault.FileFault.{FileFault}
use Rattle.s3_files.specs.declared.fault.FileFault.TheVariants.{Full, NoRecord}
use Rattle.s3_files.specs.Records.{with_last, with_record}
use Rattle.s3_keyed.specs.declared.fault.KeyedFault.TheVariants.{Duplicate, KeyChanged, NotAscending}
use Rattle.s3_keyed.specs.Index.{KeyPlace, key_of, keys_of}
use Rattle.s3_keyed.specs.Calls.{keyed_result, updated_from, with_added, with_loaded, with_updated}
use Rattle.s3_job_files.specs.declared.records.Put.{Put}
use Rattle.s3_job_files.specs.declared.records.Put.TheVariants.{Done, Refused}
use Rattle.s3_job_files.specs.Kept.{key_place}
use Rattle.s3_job_files.specs.Records.{added, appended, by_key, in_order, overlaid, updated, updated_at, updated_over}
use Rattle.s3_job_files.specs.Inner.Calls.{Puts, put_answer}

-- each refusal is one of these
abbrev Within : (HaltCode → Bool) → Result (List (List ℕ)) HaltCode → Type 0
Within refuses meant = (code : HaltCode) → meant ≡ Err code → refuses code ≡ true

by_code : (refuses : HaltCode → Bool) (one : HaltCode) → refuses one ≡ true → Within refuses (Err one)
by_code refuses one is code same = let e : one ≡ code = cc in ap refuses (sym e) ∙ is

done : (refuses : HaltCode → Bool) (records : List (List ℕ)) → Within refuses (Ok records)
done refuses records code same = absurd cc

-- ---- a record is put
put_last : (refuses : HaltCode → Bool) (b : Bool) (records : List (List ℕ)) → refuses FileFull ≡ true → Within refuses (by_key (keyed_result (if b then Ok records else Err Full)))
put_last refuses true records full = done refuses records
put_last refuses false records full = by_code refuses FileFull full

put_in_order : (refuses : HaltCode → Bool) (b : Bool) (records : List (List ℕ)) (one : HaltCode) (fault : FileFault) → refuses one ≡ true → Within refuses (in_order one (if b then Ok records else Err fault))
put_in_order refuses true records one fault is = done refuses records
put_in_order refuses false records one fault is = by_code refuses one is

loaded_within : (place : KeyPlace) (capacity : ℕ) (bytes : List ℕ) (records : List (List ℕ)) → Within refuses_append (by_key (with_loaded place capacity bytes records))
unfolding with_loaded
loaded_within place capacity bytes records = by (list_all (λ key. nat_lt key (key_of place bytes)) (keys_of place records))
  where
    by : (b : Bool) → Within refuses_append (by_key (if b then keyed_result (with_last capacity bytes records) else Err NotAscending))
    by true = put_last refuses_append (nat_lt (length records) capacity) (records ++ bytes ∷ []) refl
    by false = by_code refuses_append KeyNotAscending refl

added_by_key : (place : KeyPlace) (capacity : ℕ) (bytes : List ℕ) (records : List (List ℕ)) → Within refuses_add (by_key (with_added place capacity bytes records))
unfolding with_added
added_by_key place capacity bytes records = by (list_any (nat_eq (key_of place bytes)) (keys_of place records))
  where
    by : (b : Bool) → Within refuses_add (by_key (if b then Err Duplicate else keyed_result (with_last capacity bytes records)))
    by true = by_code refuses_add DuplicateKey refl
    by false = put_last refuses_add (nat_lt (length records) capacity) (records ++ bytes ∷ []) refl

updated_by_key : (place : KeyPlace) (i : ℕ) (bytes : List ℕ) (records : List (List ℕ)) → Within refuses_update (by_key (with_updated place i bytes records))
unfolding with_updated
updated_by_key place i bytes records = by (slice_get records i)
  where
    set : (b : Bool) → Within refuses_update (by_key (keyed_result (if b then Ok (slice_set records i bytes) else Err NoRecord)))
    set true = done refuses_update (slice_set records i bytes)
    set false = by_code refuses_update NothingToUpdate refl

    same : (b : Bool) → Within refuses_update (by_key (if b then keyed_result (with_record i bytes records) else Err KeyChanged))
    same true = set (nat_lt i (length records))
    same false = by_code refuses_update KeyChangedHalt refl

    by : (old : Option (List ℕ)) → Within refuses_update (by_key (updated_from place i bytes records old))
    by None = by_code refuses_update NothingToUpdate refl
    by (Some old) = same (key_of place bytes == key_of place old)

-- ---- the requests
pub appended_within : (label : FileLabel) (bytes : List ℕ) (records : List (List ℕ)) → Within refuses_append (appended label bytes records)
appended_within label bytes records = by (is_indexed label.organization)
  where
    by : (b : Bool) → Within refuses_append (if b then by_key (with_loaded (key_place label) label.capacity bytes records) else in_order FileFull (with_last label.capacity bytes records))
    by true = loaded_within (key_place label) label.capacity bytes records
    by false = put_in_order refuses_append (nat_lt (length records) label.capacity) (records ++ bytes ∷ []) FileFull Full refl

pub added_within : (label : FileLabel) (bytes : List ℕ) (records : List (List ℕ)) → Within refuses_add (added label bytes records)
added_within label bytes records = added_by_key (key_place label) label.capacity bytes records

updated_at_within : (label : FileLabel) (i : ℕ) (bytes : List ℕ) (records : List (List ℕ)) → Within refuses_update (updated_at label i bytes records)
updated_at_within label i bytes records = by (is_indexed label.organization)
  where
    by : (b : Bool) → Within refuses_update (if b then by_key (with_updated (key_place label) i bytes records) else in_order NothingToUpdate (with_record i bytes records))
    by true = updated_by_key (key_place label) i bytes records
    by false = put_in_order refuses_update (nat_lt i (length records)) (slice_set records i bytes) NothingToUpdate NoRecord refl

pub updated_within : (label : FileLabel) (changes : List (Option ℕ)) (place : Option ℕ) (records : List (List ℕ)) → Within refuses_update (updated label changes place records)
updated_within label changes None records = by_code refuses_update NothingToUpdate refl
updated_within label changes (Some i) records = by (slice_get records i)
  where
    by : (old : Option (List ℕ)) → Within refuses_update (updated_over label changes i records old)
    by None = by_code refuses_update NothingToUpdate refl
    by (Some old) = updated_at_within label i (overlaid changes old) records

pub fits_puts : (refuses : HaltCode → Bool) (meant : Result (List (List ℕ)) HaltCode) (old new : List (List ℕ)) (result : Result Put SectorFault) → Within refuses meant → IfOk result (λ put. Puts meant put old new)
    → IfOk result (λ put. fits_done refuses (put_answer put) ≡ true)
fits_puts refuses meant old new (Ok Done) within puts = refl
fits_puts refuses meant old new (Ok (Refused code)) within puts = within code puts.0
fits_puts refuses meant old new (Err fault) within puts = tt
