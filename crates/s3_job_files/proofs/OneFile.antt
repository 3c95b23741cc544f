-- One open file: its sectors are there, and its records are where its label says.
use Rattle.std.proofs.Common.{◌≡◌, ◌<◌, ◌≤◌, ℕ, zero, suc, arith, Bool, true, false, List, length, take, refl, ap, ap₂, sym, subst, ◌∙◌}
use Rattle.std.specs.Prelude.{ℤ, pos, negsuc, ◌≤ℤ◌, slice_get, Option, Some, None, IfOk, IfSome, OnOk, Result, Ok, Err, if◌then◌else◌}
use Rattle.std.proofs.lemmas.Bool.{true≢false}
use Rattle.std.proofs.lemmas.List.{take-map}
use Rattle.s3_store.specs.declared.sector_fault.SectorFault.{SectorFault}
use Rattle.s3_slots.specs.Labels.{file_bytes, is_direct, is_indexed, sectors_of}
use Rattle.s3_slots.specs.Slots.{is_count_of}
use Rattle.s3_slots.specs.declared.label.Organization.{Organization}
use Rattle.s3_slots.specs.declared.label.Organization.TheVariants.{Direct, Indexed, Sequential as InSequence}
use Rattle.s3_slots.specs.declared.label.FileLabel.{FileLabel}
use Rattle.s3_files.specs.Inner.Files.{AreStored}
use Rattle.s3_files.specs.declared.sequential.Sequential.{Sequential}
use Rattle.s3_files.proofs.Rooms.{of_pack_full, of_pack_stored}
use Rattle.s3_keyed.specs.declared.keyed.Keyed.{Keyed}
use Rattle.s3_keyed.specs.Index.{KeyPlace, Layout, index_in, key_of, keys_of, layout_of}
use Rattle.s3_keyed.specs.Inner.Keyed.{bytes_now, records_now, keys_now, shown}
use Rattle.s3_keyed.specs.Calls.{nth_by_key, place_of_key}
use Rattle.s3_keyed.specs.KeyOrder.{is_good_index, number_of}
use Rattle.s3_store.specs.Bytes.{bytes_at}
use Rattle.s3_files.proofs.RecordLemmas.{length_records}
use Rattle.s3_meaning.specs.Requests.{Key}
use Rattle.s3_job_files.specs.declared.records.OpenRecords.{OpenRecords}
use Rattle.s3_job_files.specs.declared.records.OpenRecords.TheVariants.{InOrder, ByKey}
use Rattle.s3_files.specs.Records.{records_in}
use Rattle.s3_job_files.specs.Kept.{Kept, index_is_good, kept_in, kept_on, key_place}
use Rattle.s3_operator.specs.declared.halt_code.HaltCode.TheVariants.{NothingToUpdate}
use Rattle.s3_job_files.specs.declared.records.Put.{Put}
use Rattle.s3_job_files.specs.declared.records.Put.TheVariants.{Refused as PutRefused}
use Rattle.s3_job_files.specs.Inner.Calls.{Puts, found_answer, found_record}
use Rattle.s3_job_files.specs.Requests.{answer_at, answer_with}
use Rattle.s3_job_files.specs.Records.{overlaid, place_read, place_sought, place_numbered, updated, updated_at, updated_over}
use Rattle.s3_job_files.specs.Inner.Holds.{AreOf, IsUsable, count_of, records_of}
use Rattle.s3_job_files.proofs.Plain.{are_same, at_most, is_below, not_below}

pub in_order_stored : (contents : List (List ℕ)) (label : FileLabel) (records : OpenRecords) (file : Sequential) → IsUsable contents label records → records ≡ InOrder file
    → AreStored file.sectors contents
in_order_stored contents label records file usable is =
    let of_label : AreOf label contents (InOrder file) = subst (AreOf label contents) is usable.of_label in
    subst (λ s. AreStored s contents) (sym of_label.sectors) (of_pack_stored contents label usable.on_pack)

pub by_key_stored : (contents : List (List ℕ)) (label : FileLabel) (records : OpenRecords) (file : Keyed) → IsUsable contents label records → records ≡ ByKey file
    → AreStored (shown file).sectors contents
by_key_stored contents label records file usable is =
    let of_label : AreOf label contents (ByKey file) = subst (AreOf label contents) is usable.of_label in
    subst (λ s. AreStored s contents) (sym of_label.sectors) (of_pack_stored contents label usable.on_pack)

keys_taken : (place : KeyPlace) (n : ℕ) (records : List (List ℕ)) → keys_of place (take n records) ≡ take n (keys_of place records)
unfolding keys_of
keys_taken place n records = sym (take-map (key_of place) n records)

-- the n-th record by key, of those at the check
pub read_by_key : (contents : List (List ℕ)) (label : FileLabel) (records : OpenRecords) (file : Keyed) (n : ℕ) (place : Option ℕ) → IsUsable contents label records → records ≡ ByKey file → n < label.count
    → nth_by_key (take (shown file).started (keys_now (shown file) contents)) n ≡ place → place_read label (records_of records contents) n ≡ place
read_by_key contents label records file n place usable is below nth =
    let of_label : AreOf label contents (ByKey file) = subst (AreOf label contents) is usable.of_label in
    let rs : List (List ℕ) = records_now (shown file) contents in
    ap (λ (r : OpenRecords). place_read label (records_of r contents) n) is
    ∙ ap (λ (b : Bool). if b then (if is_indexed label.organization then nth_by_key (keys_of (key_place label) (take label.count rs)) n else Some n) else None) (is_below n label.count below)
    ∙ ap (λ (b : Bool). if b then nth_by_key (keys_of (key_place label) (take label.count rs)) n else Some n) of_label.indexed
    ∙ ap (λ keys. nth_by_key keys n)
    (keys_taken (key_place label) label.count rs
    ∙ ap (λ k. take k (keys_of (key_place label) rs)) (sym of_label.started)
    ∙ ap (λ (l : Layout). take (shown file).started (keys_of l.key rs)) (sym of_label.layout))
    ∙ nth

pub read_by_key_if : (contents : List (List ℕ)) (label : FileLabel) (records : OpenRecords) (file : Keyed) (n : ℕ) (result : Result (Option ℕ) SectorFault) → IsUsable contents label records → records ≡ ByKey file → n < label.count
    → IfOk result (λ place. nth_by_key (take (shown file).started (keys_now (shown file) contents)) n ≡ place) → IfOk result (λ place. place_read label (records_of records contents) n ≡ place)
read_by_key_if contents label records file n (Ok place) usable is below nth = read_by_key contents label records file n place usable is below nth
read_by_key_if contents label records file n (Err fault) usable is below nth = tt

-- and in the order of the file
pub read_in_order : (contents : List (List ℕ)) (label : FileLabel) (records : OpenRecords) (file : Sequential) (n : ℕ) → IsUsable contents label records → records ≡ InOrder file → n < label.count
    → place_read label (records_of records contents) n ≡ Some n
read_in_order contents label records file n usable is below =
    let of_label : AreOf label contents (InOrder file) = subst (AreOf label contents) is usable.of_label in
    let keys : List ℕ = keys_of (key_place label) (take label.count (records_of records contents)) in
    ap (λ (b : Bool). if b then (if is_indexed label.organization then nth_by_key keys n else Some n) else None) (is_below n label.count below)
    ∙ ap (λ (b : Bool). if b then nth_by_key keys n else Some n) of_label.plain

pub read_past : (label : FileLabel) (records : List (List ℕ)) (n : ℕ) → label.count ≤ n → place_read label records n ≡ None
read_past label records n past =
    ap (λ (b : Bool). if b then (if is_indexed label.organization then nth_by_key (keys_of (key_place label) (take label.count records)) n else Some n) else None) (not_below n label.count past)

pub answer_found : (records : OpenRecords) (place : Option ℕ) (i : ℕ) (found : Bool) (bytes : List ℕ) (old mid : List (List ℕ)) → place ≡ Some i → mid ≡ old
    → found_record found bytes ≡ slice_get (records_of records mid) i → found_answer found bytes ≡ answer_at (records_of records old) place
answer_found records place i found bytes old mid is same there =
    ap answer_with there ∙ ap (λ c. answer_at (records_of records c) (Some i)) same ∙ ap (answer_at (records_of records old)) (sym is)

key_found : (contents : List (List ℕ)) (label : FileLabel) (file : Keyed) (key : List ℕ) → IsUsable contents label (ByKey file)
    → place_sought label (records_of (ByKey file) contents) (Key key) ≡ place_of_key (number_of key) (keys_now (shown file) contents)
key_found contents label file key usable =
    ap (λ (l : Layout). place_of_key (number_of key) (keys_of l.key (records_now (shown file) contents))) (sym usable.of_label.layout)

-- the record of a key
pub key_sought : (contents : List (List ℕ)) (label : FileLabel) (records : OpenRecords) (file : Keyed) (key : List ℕ) (place : Option ℕ) → IsUsable contents label records → records ≡ ByKey file
    → place_of_key (number_of key) (keys_now (shown file) contents) ≡ place → place_sought label (records_of records contents) (Key key) ≡ place
key_sought contents label records file key place usable is found =
    ap (λ (r : OpenRecords). place_sought label (records_of r contents) (Key key)) is
    ∙ key_found contents label file key (subst (IsUsable contents label) is usable) ∙ found

-- the record of a key that is found at once
pub noted_sought : (contents : List (List ℕ)) (label : FileLabel) (records : OpenRecords) (file : Keyed) (key : List ℕ) (result : Result (Option ℕ) SectorFault) → IsUsable contents label records → records ≡ ByKey file
    → IfOk result (λ place. IfSome place (λ place. place_of_key (number_of key) (keys_now (shown file) contents) ≡ Some place)) → IfOk result (λ place. IfSome place (λ place. place_sought label (records_of records contents) (Key key) ≡ Some place))
noted_sought contents label records file key (Ok (Some place)) usable is found = key_sought contents label records file key (Some place) usable is found
noted_sought contents label records file key (Ok None) usable is found = tt
noted_sought contents label records file key (Err fault) usable is found = tt

pub noted_there : (contents : List (List ℕ)) (records : OpenRecords) (file : Keyed) (bytes : List ℕ) (result : Result (Option ℕ) SectorFault) → records ≡ ByKey file
    → IfOk result (λ place. IfSome place (λ place. slice_get (records_now (shown file) contents) place ≡ Some bytes)) → IfOk result (λ place. IfSome place (λ place. slice_get (records_of records contents) place ≡ Some bytes))
noted_there contents records file bytes result is found = subst (λ (r : OpenRecords). IfOk result (λ place. IfSome place (λ place. slice_get (records_of r contents) place ≡ Some bytes))) (sym is) found

pub answer_noted : (records : List (List ℕ)) (place : Option ℕ) (i : ℕ) (bytes : List ℕ) → place ≡ Some i → slice_get records i ≡ Some bytes → found_answer true bytes ≡ answer_at records place
answer_noted records place i bytes is there = sym (ap (answer_at records) is ∙ ap answer_with there)

pub count_records : (contents : List (List ℕ)) (records : OpenRecords) → length (records_of records contents) ≡ count_of records
count_records contents (InOrder file) = length_records file.record_length file.count (bytes_at file.sectors contents)
count_records contents (ByKey file) = length_records (shown file).layout.record_length (shown file).count (bytes_at (shown file).sectors contents)

-- ---- a record number
pub number_none : (count : ℕ) (number : ℤ) → (pos 1 ≤ℤ number → ⊥) → place_numbered count number ≡ None
number_none count (pos zero) low = refl
number_none count (pos (suc n)) low = absurd (low (grind arith))
number_none count (negsuc n) low = refl

pub number_past : (count : ℕ) (number : ℤ) → (number ≤ℤ pos count → ⊥) → place_numbered count number ≡ None
number_past count (pos zero) past = refl
number_past count (pos (suc n)) past = ap (λ (b : Bool). if b then Some n else None) (not_below n count (grind arith))
number_past count (negsuc n) past = refl

pub number_some : (count : ℕ) (number : ℤ) (place : ℕ) → pos 1 ≤ℤ number → number ≤ℤ pos count → number ≡ pos (suc place) → place_numbered count number ≡ Some place
number_some count number place low high is =
    ap (place_numbered count) is ∙ ap (λ (b : Bool). if b then Some place else None) (is_below place count (grind arith))

-- ---- the end of the job
abbrev kept_as : List (List ℕ) → Bool → Kept
kept_as records good = record { records = records; has_good_index = good }

abbrev is_good : FileLabel → List ℕ → List (List ℕ) → Bool
is_good label bytes records = is_good_index (index_in (layout_of label) label.count bytes) (keys_of (key_place label) records)

-- what these bytes have for a label, if its index is good
kept_by : (b : Bool) (label : FileLabel) (bytes : List ℕ) (records : List (List ℕ)) → is_indexed label.organization ≡ b → records_in label.record_length label.count bytes ≡ records
    → (b ≡ true → is_good label bytes records ≡ true) → kept_in label bytes ≡ kept_as records true
unfolding kept_in index_is_good
kept_by b label bytes records is records_are good =
    ap₂ kept_as records_are (ap (λ (c : Bool). if c then is_good label bytes (records_in label.record_length label.count bytes) else true) is ∙ by b good)
  where
    by : (c : Bool) → (c ≡ true → is_good label bytes records ≡ true) → (if c then is_good label bytes (records_in label.record_length label.count bytes) else true) ≡ true
    by true good = ap (is_good label bytes) records_are ∙ good refl
    by false good = refl

same_sectors : (label : FileLabel) (n : ℕ) (contents : List (List ℕ)) → file_bytes (record label { count = n }) contents ≡ bytes_at (sectors_of label) contents
unfolding file_bytes sectors_of
same_sectors label n contents = refl

in_order_kept : (contents : List (List ℕ)) (label : FileLabel) (file : Sequential) → IsUsable contents label (InOrder file)
    → kept_on (record label { count = file.count }) contents ≡ kept_as (records_of (InOrder file) contents) true
in_order_kept contents label file usable =
    let of_label : AreOf label contents (InOrder file) = usable.of_label in
    kept_by false (record label { count = file.count }) (file_bytes (record label { count = file.count }) contents) (records_of (InOrder file) contents) of_label.plain
    (ap (records_in label.record_length file.count) (same_sectors label file.count contents)
    ∙ ap₂ (λ long sectors. records_in long file.count (bytes_at sectors contents)) (sym of_label.record_length) (sym of_label.sectors))
    (λ wrong. absurd (true≢false (sym wrong)))

by_key_kept : (old new : List (List ℕ)) (label : FileLabel) (file : Keyed) → IsUsable old label (ByKey file)
    → is_good_index (index_in (shown file).layout (shown file).count (bytes_now (shown file) new)) (keys_now (shown file) new) ≡ true
    → records_now (shown file) new ≡ records_now (shown file) old
    → kept_on (record label { count = (shown file).count }) new ≡ kept_as (records_of (ByKey file) old) true
by_key_kept old new label file usable good same =
    let of_label : AreOf label old (ByKey file) = usable.of_label in
    let count : ℕ = (shown file).count in
    let bytes : file_bytes (record label { count = count }) new ≡ bytes_now (shown file) new = same_sectors label count new ∙ ap (λ sectors. bytes_at sectors new) (sym of_label.sectors) in
    kept_by true (record label { count = count }) (file_bytes (record label { count = count }) new) (records_now (shown file) old) of_label.indexed
    (ap (records_in label.record_length count) bytes ∙ ap (λ (l : Layout). records_in l.record_length count (bytes_now (shown file) new)) (sym of_label.layout) ∙ same)
    (λ _. ap₂ (λ (l : Layout) (bs : List ℕ). is_good_index (index_in l count bs) (keys_of l.key (records_now (shown file) old))) (sym of_label.layout) bytes
    ∙ ap (λ rs. is_good_index (index_in (shown file).layout count (bytes_now (shown file) new)) (keys_of (shown file).layout.key rs)) (sym same) ∙ good)

-- a file without an index is kept as it is
pub kept_in_order : (contents : List (List ℕ)) (label : FileLabel) (records : OpenRecords) (file : Sequential) → IsUsable contents label records → records ≡ InOrder file
    → kept_on (record label { count = count_of records }) contents ≡ record { records = records_of records contents; has_good_index = true }
kept_in_order contents label records file usable is =
    subst (λ (r : OpenRecords). kept_on (record label { count = count_of r }) contents ≡ kept_as (records_of r contents) true) (sym is)
    (in_order_kept contents label file (subst (IsUsable contents label) is usable))

-- one with an index that is good for all its records
pub kept_by_key : (old new : List (List ℕ)) (label : FileLabel) (records : OpenRecords) (file : Keyed) → IsUsable old label records → records ≡ ByKey file
    → is_good_index (index_in (shown file).layout (shown file).count (bytes_now (shown file) new)) (keys_now (shown file) new) ≡ true
    → records_now (shown file) new ≡ records_now (shown file) old
    → kept_on (record label { count = count_of records }) new ≡ record { records = records_of records old; has_good_index = true }
kept_by_key old new label records file usable is good same =
    subst (λ (r : OpenRecords). kept_on (record label { count = count_of r }) new ≡ kept_as (records_of r old) true) (sym is)
    (by_key_kept old new label file (subst (IsUsable old label) is usable) good same)

-- ---- how many records a file may have
-- an open file has as many records as its label allows
pub count_allowed : (contents : List (List ℕ)) (label : FileLabel) (records : OpenRecords) → IsUsable contents label records
    → is_count_of label.organization label.capacity (count_of records) ≡ true
count_allowed contents label (InOrder file) usable =
    allowed label.organization refl
  where
    of_label : AreOf label contents (InOrder file)
    of_label = usable.of_label

    few : file.count ≤ label.capacity
    few = subst (λ n. file.count ≤ n) of_label.capacity file.counted

    allowed : (o : Organization) → label.organization ≡ o → is_count_of o label.capacity file.count ≡ true
    allowed InSequence e = at_most file.count label.capacity few
    allowed Indexed e = at_most file.count label.capacity few
    allowed Direct e =
        let full : label.count ≡ label.capacity = of_pack_full (length contents) label usable.on_pack (ap is_direct e) in
        are_same file.count label.capacity (omega (arith, of_label.started, few, full))
count_allowed contents label (ByKey file) usable = allowed label.organization refl
  where
    of_label : AreOf label contents (ByKey file)
    of_label = usable.of_label

    few : (shown file).count ≤ label.capacity
    few = subst (λ (l : Layout). (shown file).count ≤ l.capacity) of_label.layout file.counted

    allowed : (o : Organization) → label.organization ≡ o → is_count_of o label.capacity (shown file).count ≡ true
    allowed InSequence e = absurd (true≢false (sym of_label.indexed ∙ ap is_indexed e))
    allowed Indexed e = at_most (shown file).count label.capacity few
    allowed Direct e = absurd (true≢false (sym of_label.indexed ∙ ap is_indexed e))

pub kept_by_key_if : (old new : List (List ℕ)) (label : FileLabel) (records : OpenRecords) (file : Keyed) (result : Result (Unit {0}) SectorFault) → IsUsable old label records → records ≡ ByKey file
    → OnOk result (is_good_index (index_in (shown file).layout (shown file).count (bytes_now (shown file) new)) (keys_now (shown file) new) ≡ true)
    → records_now (shown file) new ≡ records_now (shown file) old
    → OnOk result (kept_on (record label { count = count_of records }) new ≡ record { records = records_of records old; has_good_index = true })
kept_by_key_if old new label records file (Ok _) usable is good same = kept_by_key old new label records file usable is good same
kept_by_key_if old new label records file (Err fault) usable is good same = tt

-- ---- the current record is changed
pub usable_kept : (old new : List (List ℕ)) (label : FileLabel) (records : OpenRecords) → new ≡ old → IsUsable old label records → IsUsable new label records
usable_kept old new label records same = subst (λ c. IsUsable c label records) (sym same)

pub of_label_kept : (old new : List (List ℕ)) (label : FileLabel) (records : OpenRecords) → new ≡ old → IsUsable old label records → AreOf label new records
of_label_kept old new label records same usable = subst (λ c. AreOf label c records) (sym same) usable.of_label

pub nothing_to_update : (label : FileLabel) (changes : List (Option ℕ)) (records : OpenRecords) (place : Option ℕ) (old new : List (List ℕ)) → place ≡ None → new ≡ old
    → Puts (updated label changes place (records_of records old)) (PutRefused NothingToUpdate) (records_of records old) (records_of records new)
nothing_to_update label changes records place old new is same = (ap (λ p. updated label changes p (records_of records old)) is, ap (records_of records) same)

pub updated_after : (label : FileLabel) (changes : List (Option ℕ)) (records : OpenRecords) (place : Option ℕ) (i : ℕ) (old mid new : List (List ℕ)) (result : Result Put SectorFault) → place ≡ Some i → mid ≡ old
    → IfOk result (λ put. Puts (updated label changes (Some i) (records_of records mid)) put (records_of records mid) (records_of records new))
    → IfOk result (λ put. Puts (updated label changes place (records_of records old)) put (records_of records old) (records_of records new))
updated_after label changes records place i old mid new result is same puts =
    subst (λ p. IfOk result (λ put. Puts (updated label changes p (records_of records old)) put (records_of records old) (records_of records new))) (sym is)
    (subst (λ c. IfOk result (λ put. Puts (updated label changes (Some i) (records_of records c)) put (records_of records c) (records_of records new))) same puts)

pub found_there : (records : OpenRecords) (i : ℕ) (found : Bool) (bytes : List ℕ) (old mid : List (List ℕ)) → found ≡ true → found_record found bytes ≡ slice_get (records_of records old) i → mid ≡ old
    → slice_get (records_of records mid) i ≡ Some bytes
found_there records i found bytes old mid is there same = ap (λ c. slice_get (records_of records c) i) same ∙ sym there ∙ ap (λ b. found_record b bytes) is

pub updated_found : (label : FileLabel) (changes : List (Option ℕ)) (records : OpenRecords) (i : ℕ) (found : Bool) (bytes laid : List ℕ) (old mid new : List (List ℕ)) (result : Result Put SectorFault) → found ≡ true
    → found_record found bytes ≡ slice_get (records_of records old) i → laid ≡ overlaid changes bytes → mid ≡ old
    → IfOk result (λ put. Puts (updated_at label i laid (records_of records mid)) put (records_of records mid) (records_of records new))
    → IfOk result (λ put. Puts (updated label changes (Some i) (records_of records old)) put (records_of records old) (records_of records new))
updated_found label changes records i found bytes laid old mid new result is there laid_is same puts =
    let rs : List (List ℕ) = records_of records old in
    let meant : updated_at label i laid rs ≡ updated label changes (Some i) rs =
    ap (λ bs. updated_at label i bs rs) laid_is ∙ ap (updated_over label changes i rs) (ap (λ b. found_record b bytes) (sym is) ∙ there) in
    subst (λ m. IfOk result (λ put. Puts m put rs (records_of records new))) meant
    (subst (λ c. IfOk result (λ put. Puts (updated_at label i laid (records_of records c)) put (records_of records c) (records_of records new))) same puts)

pub none_found : (label : FileLabel) (changes : List (Option ℕ)) (records : OpenRecords) (i : ℕ) (found : Bool) (bytes : List ℕ) (old new : List (List ℕ)) → found ≡ false
    → found_record found bytes ≡ slice_get (records_of records old) i → new ≡ old
    → Puts (updated label changes (Some i) (records_of records old)) (PutRefused NothingToUpdate) (records_of records old) (records_of records new)
none_found label changes records i found bytes old new is there same =
    (ap (updated_over label changes i (records_of records old)) (sym (ap (λ b. found_record b bytes) (sym is) ∙ there)), ap (records_of records) same)
