-- Files that records are put into, one behind another.
use Rattle.std.proofs.Common.{◌≡◌, ℕ, ◌+◌, ◌*◌, ◌<◌, ◌≤◌, refl, arith, sym, ◌∙◌, ap, ap₂, subst, Bool, true, false, cond, nat_eq, nat_lt, List, [], ◌∷◌, ◌++◌, length, take, drop, get_or, slice_get, append_assoc}
use Rattle.std.specs.Prelude.{Result, Ok, Err}
use Rattle.std.proofs.lemmas.List.{append-nil, drop-drop, length-append, map-append, take_all, take_more}
use Rattle.std.proofs.Math.Nat.{add-mul}
use Rattle.std.specs.List.{Contains, list_all, list_any}
use Rattle.s3_store.specs.Bytes.{bytes_at}
use Rattle.s3_store.specs.Inner.State.{ChangesWithin, KeepsContents, PoolState}
use Rattle.s3_slots.specs.Labels.{file_bytes, is_indexed, sectors_of}
use Rattle.s3_slots.specs.declared.label.FileLabel.{FileLabel}
use Rattle.s3_files.specs.Records.{records_in, with_last}
use Rattle.s3_files.specs.Inner.Files.{AreStored, ChangesRecord}
use Rattle.s3_files.specs.declared.sequential.Sequential.{Sequential}
use Rattle.s3_files.proofs.RecordLemmas.{length_records}
use Rattle.s3_keyed.specs.Calls.{keyed_result, with_added, with_loaded}
use Rattle.s3_keyed.specs.Index.{KeyPlace, Layout, index_in, key_of, keys_of, layout_of}
use Rattle.s3_keyed.specs.KeyOrder.{is_good_index}
use Rattle.s3_keyed.specs.Inner.Keyed.{HasKeyOrder, IsSameFile, IsUntouched, KeyedFile, bytes_now, keys_now, opened_of, records_now, shown}
use Rattle.s3_keyed.specs.Inner.Unused.{KeepsUnused}
use Rattle.s3_keyed.proofs.Unused.{unused_more, unused_same, unused_then}
use Rattle.s3_keyed.specs.declared.fault.KeyedFault.{KeyedFault}
use Rattle.s3_keyed.specs.declared.fault.KeyedFault.TheVariants.{Duplicate, NotAscending}
use Rattle.s3_files.specs.declared.fault.FileFault.{FileFault}
use Rattle.s3_files.specs.declared.fault.FileFault.TheVariants.{Full}
use Rattle.s3_keyed.specs.declared.keyed.Keyed.{Keyed}
use Rattle.s3_pack_care.specs.Inner.Rows.{KeepsTail, shape_of}
use Rattle.s3_unload.specs.Inner.Ordered.{in_order}
use Rattle.s3_load.specs.declared.rows.Row.{Row}
use Rattle.s3_load.specs.Inner.Filling.{AddsByKey, AddsRecord, ChangesOnly, HasGoodIndex, HasMore, IsAtWork, IsFilled, KeepsSpare, KeepsSpareNow, counted, records_of}

-- the records of rows, one more
records_more : (rows : List Row) (i : ℕ) (row : Row) → i < length rows → row ≡ get_or rows i row → records_of (take (i + 1) rows) ≡ records_of (take i rows) ++ row.bytes.items ∷ []
records_more rows i row h is =
    ap records_of (take_more rows i row h) ∙ map-append (λ (r : Row). r.bytes.items) (take i rows) (get_or rows i row ∷ [])
    ∙ ap (λ (r : Row). records_of (take i rows) ++ r.bytes.items ∷ []) (sym is)

in_order_is : (label : FileLabel) (contents : List (List ℕ)) → in_order label contents ≡ records_in label.record_length label.count (bytes_at (sectors_of label) contents)
unfolding in_order file_bytes
in_order_is label contents = refl

counted_is : (label : FileLabel) (count : ℕ) (contents : List (List ℕ)) → in_order (counted label count) contents ≡ records_in label.record_length count (bytes_at (sectors_of label) contents)
unfolding in_order file_bytes sectors_of
counted_is label count contents = refl

counted_long : (label : FileLabel) (contents : List (List ℕ)) → length (in_order label contents) ≡ label.count
counted_long label contents = ap length (in_order_is label contents) ∙ length_records label.record_length label.count (bytes_at (sectors_of label) contents)

-- ---- sectors that stay
pub only_same : (sectors : List ℕ) (contents : List (List ℕ)) → ChangesOnly sectors contents contents
only_same sectors contents = record { others = λ n out. refl }

pub only_within : (sectors of : List ℕ) (old new : PoolState) → of ≡ sectors → ChangesWithin (Contains of) old new → ChangesOnly sectors old.contents new.contents
only_within sectors of old new same within = record { others = λ n out. within.contents n (λ has. out (subst (λ s. Contains s n) same has)) }

pub only_kept : (sectors : List ℕ) (old new : PoolState) → KeepsContents old new → ChangesOnly sectors old.contents new.contents
only_kept sectors old new keeps = record { others = λ n out. ap (λ contents. slice_get contents n) keeps.contents }

pub only_more : (sectors of : List ℕ) (old middle new : List (List ℕ)) → of ≡ sectors → ChangesOnly sectors old middle → ChangesOnly of middle new → ChangesOnly sectors old new
only_more sectors of old middle new same before after = record { others = λ n out. after.others n (λ has. out (subst (λ s. Contains s n) same has)) ∙ before.others n out }

-- a file that was opened, filled and closed
pub only_closed : (sectors of : List ℕ) (begun opened : List (List ℕ)) (old new : PoolState) → opened ≡ begun → of ≡ sectors → ChangesOnly sectors opened old.contents → ChangesWithin (Contains of) old new → ChangesOnly sectors begun new.contents
only_closed sectors of begun opened old new same own before within =
    subst (λ s. ChangesOnly sectors s new.contents) same (only_more sectors sectors opened old.contents new.contents refl before (only_within sectors of old new own within))

-- ---- the bytes after the last record
-- one record more
longer : (n m long wide : ℕ) → n ≡ m + 1 → long ≡ wide → n * long ≡ m * wide + wide
longer n m long wide count same =
    let split : (m + 1) * wide ≡ m * wide + 1 * wide = add-mul m 1 wide in
    let one : 1 * wide ≡ wide = omega arith in
    ap₂ (λ a b. a * b) count same ∙ split ∙ ap (λ k. m * wide + k) one

-- those after one more record are the last of those after the others
tail_later : (first last : Sequential) (old new : List (List ℕ)) → last.sectors ≡ first.sectors → last.record_length ≡ first.record_length → last.count ≡ first.count + 1 → KeepsTail (shape_of first) old new → KeepsTail (shape_of last) old new
tail_later first last old new sectors long counts same =
    let at = longer last.count first.count last.record_length first.record_length counts long in
    let past : (contents : List (List ℕ)) → drop (last.count * last.record_length) (bytes_at last.sectors contents) ≡ drop first.record_length (drop (first.count * first.record_length) (bytes_at first.sectors contents)) =
    λ contents. ap₂ (λ n s. drop n (bytes_at s contents)) at sectors ∙ sym (drop-drop first.record_length (first.count * first.record_length) (bytes_at first.sectors contents)) in
    past new ∙ ap (drop first.record_length) same ∙ sym (past old)

-- the records after one that was appended
tail_grown : (first last : Sequential) (old new : List (List ℕ)) → last.sectors ≡ first.sectors → last.record_length ≡ first.record_length → last.count ≡ first.count + 1 → ChangesRecord (shape_of first) first.count old new → KeepsTail (shape_of last) old new
tail_grown first last old new sectors long counts others =
    let at = longer last.count first.count last.record_length first.record_length counts long in
    ap₂ (λ n s. drop n (bytes_at s new)) at sectors ∙ others.after ∙ sym (ap₂ (λ n s. drop n (bytes_at s old)) at sectors)

-- ---- without an index
pub none_filled : (file : Sequential) (label : FileLabel) (contents : List (List ℕ)) → file.sectors ≡ sectors_of label → file.record_length ≡ label.record_length → file.count ≡ label.count → IsFilled file label [] contents contents
none_filled file label contents sectors long counts =
    record {
      sectors = sectors;
      record_length = long;
      counts = omega arith;
      records = rw (sectors, long, counts) (sym (in_order_is label contents)) ∙ sym (append-nil (in_order label contents));
      tail = refl;
    }

pub one_more_filled : (first last : Sequential) (label : FileLabel) (rows : List Row) (i : ℕ) (row : Row) (old middle new : List (List ℕ)) → i < length rows → row ≡ get_or rows i row → IsFilled first label (records_of (take i rows)) old middle
    → AddsRecord row.bytes.items first last middle new → IsFilled last label (records_of (take (i + 1) rows)) old new
one_more_filled first last label rows i row old middle new h is before adds =
    let more = records_more rows i row h is in
    let long : length (records_of (take (i + 1) rows)) ≡ length (records_of (take i rows)) + 1 = ap length more ∙ length-append (records_of (take i rows)) (row.bytes.items ∷ []) in
    let counts = before.counts in
    let one = adds.counts in
    record {
      sectors = adds.sectors ∙ before.sectors;
      record_length = adds.record_length ∙ before.record_length;
      counts = omega arith;
      records = adds.records ∙ ap (λ rs. rs ++ row.bytes.items ∷ []) before.records ∙ append_assoc (in_order label old) (records_of (take i rows)) (row.bytes.items ∷ []) ∙ ap (λ rs. in_order label old ++ rs) (sym more);
      tail = adds.tail ∙ tail_later first last old middle adds.sectors adds.record_length adds.counts before.tail;
    }

pub all_filled : (file : Sequential) (label : FileLabel) (rows : List Row) (n : ℕ) (old new : List (List ℕ)) → length rows ≤ n → IsFilled file label (records_of (take n rows)) old new → HasMore label (records_of rows) old new file.count
all_filled file label rows n old new whole filled =
    let all : records_of (take n rows) ≡ records_of rows = ap records_of (take_all n rows whole) in
    let counts = filled.counts in
    record {
      counts = counts ∙ ap (λ rs. label.count + length rs) all;
      records = counted_is label file.count new ∙ ap₂ (λ long s. records_in long file.count (bytes_at s new)) (sym filled.record_length) (sym filled.sectors) ∙ filled.records ∙ ap (λ rs. in_order label old ++ rs) all;
      tail = λ plain.
          let at : (contents : List (List ℕ)) → drop (file.count * file.record_length) (bytes_at file.sectors contents) ≡ drop (file.count * label.record_length) (bytes_at (sectors_of label) contents) =
          λ contents. ap₂ (λ long s. drop (file.count * long) (bytes_at s contents)) filled.record_length filled.sectors in
          sym (at new) ∙ filled.tail ∙ at old;
    }

-- a file that is longer by a record
pub grown_by : (bytes : List ℕ) (first last : Sequential) (old new : List (List ℕ)) → last.sectors ≡ first.sectors → last.record_length ≡ first.record_length → last.count ≡ first.count + 1
    → records_in last.record_length last.count (bytes_at last.sectors new) ≡ records_in first.record_length first.count (bytes_at first.sectors old) ++ bytes ∷ [] → ChangesRecord (shape_of first) first.count old new → AddsRecord bytes first last old new
grown_by bytes first last old new sectors long counts records others = record { sectors = sectors; record_length = long; counts = counts; records = records; tail = tail_grown first last old new sectors long counts others }

-- ---- with an index
abbrev by_room : Bool → List (List ℕ) → Result (List (List ℕ)) FileFault
by_room room records = cond room (Ok records) (Err Full)

room_made : (room : Bool) (records new : List (List ℕ)) → keyed_result (by_room room records) ≡ Ok new → new ≡ records
room_made true records new h = cc
room_made false records new h = absurd cc

last_added : (capacity : ℕ) (bytes : List ℕ) (old new : List (List ℕ)) → keyed_result (with_last capacity bytes old) ≡ Ok new → new ≡ old ++ bytes ∷ []
last_added capacity bytes old new h = room_made (nat_lt (length old) capacity) (old ++ bytes ∷ []) new h

abbrev by_test : Bool → (first last : Result (List (List ℕ)) KeyedFault) → Result (List (List ℕ)) KeyedFault
by_test test first last = cond test first last

abbrev refusal : KeyedFault → Result (List (List ℕ)) KeyedFault
refusal fault = Err fault

not_first : (test : Bool) (fault : KeyedFault) (last : Result (List (List ℕ)) KeyedFault) (new : List (List ℕ)) → by_test test (refusal fault) last ≡ Ok new → last ≡ Ok new
not_first true fault last new h = absurd cc
not_first false fault last new h = h

not_last : (test : Bool) (fault : KeyedFault) (first : Result (List (List ℕ)) KeyedFault) (new : List (List ℕ)) → by_test test first (refusal fault) ≡ Ok new → first ≡ Ok new
not_last true fault first new h = h
not_last false fault first new h = absurd cc

pub added_last : (place : KeyPlace) (capacity : ℕ) (bytes : List ℕ) (old new : List (List ℕ)) → with_added place capacity bytes old ≡ Ok new → new ≡ old ++ bytes ∷ []
unfolding with_added
added_last place capacity bytes old new h =
    last_added capacity bytes old new (not_first (list_any (nat_eq (key_of place bytes)) (keys_of place old)) Duplicate (keyed_result (with_last capacity bytes old)) new h)

pub loaded_last : (place : KeyPlace) (capacity : ℕ) (bytes : List ℕ) (old new : List (List ℕ)) → with_loaded place capacity bytes old ≡ Ok new → new ≡ old ++ bytes ∷ []
unfolding with_loaded
loaded_last place capacity bytes old new h =
    last_added capacity bytes old new (not_last (list_all (λ key. nat_lt key (key_of place bytes)) (keys_of place old)) NotAscending (keyed_result (with_last capacity bytes old)) new h)

pub opened_work : (file : Keyed) (label : FileLabel) (contents : List (List ℕ)) → shown file ≡ opened_of (sectors_of label) (layout_of label) label.count → HasKeyOrder (shown file) contents → AreStored (sectors_of label) contents → IsAtWork file label contents
opened_work file label contents opened order stored =
    let sectors : (shown file).sectors ≡ sectors_of label = ap (λ (f : KeyedFile). f.sectors) opened in
    record {
      stored = subst (λ s. AreStored s contents) (sym sectors) stored;
      key_order = order;
      sectors = sectors;
      layout = ap (λ (f : KeyedFile). f.layout) opened;
    }

pub still_at_work : (first last : Keyed) (label : FileLabel) (old new : List (List ℕ)) → IsAtWork first label old → IsSameFile (shown first) (shown last) → AreStored (shown first).sectors new → HasKeyOrder (shown last) new → IsAtWork last label new
still_at_work first last label old new work same stored order =
    record {
      stored = subst (λ s. AreStored s new) (sym same.sectors) stored;
      key_order = order;
      sectors = same.sectors ∙ work.sectors;
      layout = same.layout ∙ work.layout;
    }

pub untouched_at_work : (first last : Keyed) (label : FileLabel) (old new : PoolState) → IsAtWork first label old.contents → IsUntouched (shown first) (shown last) old new → IsAtWork last label new.contents
untouched_at_work first last label old new work same =
    let contents : new.contents ≡ old.contents = same.sectors.contents in
    let file : shown last ≡ shown first = same.file in
    record {
      stored = subst (λ s. AreStored s new.contents) (ap (λ (f : KeyedFile). f.sectors) (sym file)) (subst (λ c. AreStored (shown first).sectors c) (sym contents) work.stored);
      key_order = subst (λ f. HasKeyOrder f new.contents) (sym file) (subst (λ c. HasKeyOrder (shown first) c) (sym contents) work.key_order);
      sectors = ap (λ (f : KeyedFile). f.sectors) file ∙ work.sectors;
      layout = ap (λ (f : KeyedFile). f.layout) file ∙ work.layout;
    }

pub opened_records : (file : Keyed) (label : FileLabel) (contents : List (List ℕ)) → shown file ≡ opened_of (sectors_of label) (layout_of label) label.count → records_now (shown file) contents ≡ in_order label contents ++ []
opened_records file label contents opened =
    ap (λ (f : KeyedFile). records_now f contents) opened ∙ sym (in_order_is label contents) ∙ sym (append-nil (in_order label contents))

pub one_more_by_key : (first last : Keyed) (label : FileLabel) (rows : List Row) (i : ℕ) (row : Row) (old middle new : List (List ℕ)) → i < length rows → row ≡ get_or rows i row
    → records_now (shown first) middle ≡ in_order label old ++ records_of (take i rows) → AddsByKey row.bytes.items first last middle new → records_now (shown last) new ≡ in_order label old ++ records_of (take (i + 1) rows)
one_more_by_key first last label rows i row old middle new h is before adds =
    adds ∙ ap (λ rs. rs ++ row.bytes.items ∷ []) before ∙ append_assoc (in_order label old) (records_of (take i rows)) (row.bytes.items ∷ []) ∙ ap (λ rs. in_order label old ++ rs) (sym (records_more rows i row h is))

now_is : (file : Keyed) (label : FileLabel) (contents : List (List ℕ)) → (shown file).sectors ≡ sectors_of label → (shown file).layout ≡ layout_of label → in_order (counted label (shown file).count) contents ≡ records_now (shown file) contents
now_is file label contents sectors layout =
    counted_is label (shown file).count contents ∙ sym (ap₂ (λ (l : Layout) s. records_in l.record_length (shown file).count (bytes_at s contents)) layout sectors)

pub all_by_key : (file : Keyed) (label : FileLabel) (rows : List Row) (n : ℕ) (old middle new : List (List ℕ)) → is_indexed label.organization ≡ true → length rows ≤ n → IsAtWork file label middle → records_now (shown file) middle ≡ in_order label old ++ records_of (take n rows)
    → records_now (shown file) new ≡ records_now (shown file) middle → HasMore label (records_of rows) old new (shown file).count
all_by_key file label rows n old middle new indexed whole work records same =
    let all : records_of (take n rows) ≡ records_of rows = ap records_of (take_all n rows whole) in
    let now : in_order (counted label (shown file).count) new ≡ in_order label old ++ records_of rows = now_is file label new work.sectors work.layout ∙ same ∙ records ∙ ap (λ rs. in_order label old ++ rs) all in
    let counts : (shown file).count ≡ length (in_order label old ++ records_of rows) = sym (counted_long (counted label (shown file).count) new) ∙ ap length now in
    record {
      counts = counts ∙ length-append (in_order label old) (records_of rows) ∙ ap (λ n. n + length (records_of rows)) (counted_long label old);
      records = now;
      tail = λ plain. let no : true ≡ false = sym indexed ∙ plain in absurd cc;
    }

counted_good : (label : FileLabel) (count : ℕ) (new : List (List ℕ)) → is_good_index (index_in (layout_of label) count (bytes_at (sectors_of label) new)) (keys_of (layout_of label).key (in_order (counted label count) new)) ≡ true → HasGoodIndex (counted label count) new
unfolding sectors_of
counted_good label count new good = good

pub good_by_key : (file : Keyed) (label : FileLabel) (middle new : List (List ℕ)) → IsAtWork file label middle → is_good_index (index_in (shown file).layout (shown file).count (bytes_now (shown file) new)) (keys_now (shown file) new) ≡ true
    → HasGoodIndex (counted label (shown file).count) new
good_by_key file label middle new work good =
    let index : index_in (layout_of label) (shown file).count (bytes_at (sectors_of label) new) ≡ index_in (shown file).layout (shown file).count (bytes_now (shown file) new) =
    ap₂ (λ l s. index_in l (shown file).count (bytes_at s new)) (sym work.layout) (sym work.sectors) in
    let keys : keys_of (layout_of label).key (in_order (counted label (shown file).count) new) ≡ keys_now (shown file) new =
    ap₂ (λ (l : Layout) rs. keys_of l.key rs) (sym work.layout) (now_is file label new work.sectors work.layout) in
    let same : is_good_index (index_in (layout_of label) (shown file).count (bytes_at (sectors_of label) new)) (keys_of (layout_of label).key (in_order (counted label (shown file).count) new)) ≡ true = ap₂ is_good_index index keys ∙ good in
    counted_good label (shown file).count new same

-- ---- the bytes that are in no record and in no entry
-- a file in which nothing was written yet
pub spare_same : (label : FileLabel) (count : ℕ) (contents : List (List ℕ)) → KeepsSpare label count contents contents
spare_same label count contents = unused_same (layout_of label) count (bytes_at (sectors_of label) contents)

-- one in which a call changed nothing, and then another call
pub spare_later : (first middle : Keyed) (old mid : PoolState) (new : List (List ℕ)) → IsUntouched (shown first) (shown middle) old mid → KeepsSpareNow middle mid.contents new → KeepsSpareNow first old.contents new
spare_later first middle old mid new same after =
    subst (λ (f : KeyedFile). KeepsUnused f.layout (f.count + 1) (bytes_now f old.contents) (bytes_now f new)) same.file
    (subst (λ c. KeepsUnused (shown middle).layout ((shown middle).count + 1) (bytes_now (shown middle) c) (bytes_now (shown middle) new)) same.sectors.contents after)

count_more : (bytes : List ℕ) (first last : Keyed) (old new : List (List ℕ)) → AddsByKey bytes first last old new → (shown last).count ≡ (shown first).count + 1
count_more bytes first last old new adds =
    sym (length_records (shown last).layout.record_length (shown last).count (bytes_now (shown last) new)) ∙ ap length adds
    ∙ length-append (records_now (shown first) old) (bytes ∷ [])
    ∙ ap (λ n. n + 1) (length_records (shown first).layout.record_length (shown first).count (bytes_now (shown first) old))

-- the same of the label's sectors and layout
of_label : (file : Keyed) (label : FileLabel) (count : ℕ) (old new : List (List ℕ)) → (shown file).sectors ≡ sectors_of label → (shown file).layout ≡ layout_of label
    → KeepsUnused (shown file).layout count (bytes_now (shown file) old) (bytes_now (shown file) new) → KeepsSpare label count old new
of_label file label count old new sectors layout same =
    subst (λ (l : Layout). KeepsUnused l count (bytes_at (sectors_of label) old) (bytes_at (sectors_of label) new)) layout
    (subst (λ (s : List ℕ). KeepsUnused (shown file).layout count (bytes_at s old) (bytes_at s new)) sectors same)

-- one with a record more
pub spare_by_key : (first last : Keyed) (label : FileLabel) (bytes : List ℕ) (old middle new : List (List ℕ)) → IsAtWork first label middle → AddsByKey bytes first last middle new → KeepsSpare label (shown first).count old middle
    → KeepsSpareNow first middle new → KeepsSpare label (shown last).count old new
spare_by_key first last label bytes old middle new work adds before after =
    let more : (shown last).count ≡ (shown first).count + 1 = count_more bytes first last middle new adds in
    let now : KeepsSpare label ((shown first).count + 1) middle new = of_label first label ((shown first).count + 1) middle new work.sectors work.layout after in
    let wider : KeepsSpare label ((shown first).count + 1) old middle =
    unused_more (layout_of label) (shown first).count ((shown first).count + 1) (bytes_at (sectors_of label) old) (bytes_at (sectors_of label) middle) (omega arith) before in
    subst (λ n. KeepsSpare label n old new) (sym more)
    (unused_then (layout_of label) ((shown first).count + 1) (bytes_at (sectors_of label) old) (bytes_at (sectors_of label) middle) (bytes_at (sectors_of label) new) wider now)

-- one that was filled and closed
pub spare_closed : (file : Keyed) (label : FileLabel) (old middle new : List (List ℕ)) → IsAtWork file label middle → KeepsSpare label (shown file).count old middle
    → KeepsUnused (shown file).layout (shown file).count (bytes_now (shown file) middle) (bytes_now (shown file) new) → KeepsSpare label (shown file).count old new
spare_closed file label old middle new work before after =
    unused_then (layout_of label) (shown file).count (bytes_at (sectors_of label) old) (bytes_at (sectors_of label) middle) (bytes_at (sectors_of label) new) before
    (of_label file label (shown file).count middle new work.sectors work.layout after)
