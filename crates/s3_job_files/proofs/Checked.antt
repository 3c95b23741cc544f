-- A file that is opened: its index was found good, and what is kept of it are its records.
use Rattle.std.proofs.Common.{◌≡◌, ℕ, Bool, true, false, List, refl, ap, ap₂, arith, subst, sym, ◌∙◌}
use Rattle.std.specs.Prelude.{if◌then◌else◌, Option, Some, IfSome}
use Rattle.s3_store.specs.Bytes.{bytes_at}
use Rattle.s3_slots.specs.Labels.{file_bytes, is_indexed, sectors_of}
use Rattle.s3_slots.specs.declared.label.FileLabel.{FileLabel}
use Rattle.s3_files.specs.Inner.Files.{records as records_on}
use Rattle.s3_files.specs.Records.{records_in}
use Rattle.s3_files.specs.declared.sequential.Sequential.{Sequential}
use Rattle.s3_keyed.specs.Index.{index_in, keys_of, layout_of}
use Rattle.s3_keyed.specs.Inner.Index.{keys_at}
use Rattle.s3_keyed.specs.KeyOrder.{is_good_index}
use Rattle.s3_keyed.specs.Inner.Keyed.{HasKeyOrder, KeyedFile, opened_of, records_now, shown}
use Rattle.s3_keyed.specs.declared.keyed.Keyed.{Keyed}
use Rattle.s3_job_files.specs.Kept.{index_is_good, kept_in, kept_on, key_place}
use Rattle.s3_job_files.specs.declared.records.OpenRecords.TheVariants.{InOrder, ByKey}
use Rattle.s3_job_files.specs.Inner.Holds.{AreOf, shape_of}

pub plain_good : (label : FileLabel) (contents : List (List ℕ)) → is_indexed label.organization ≡ false → (kept_on label contents).has_good_index ≡ true
unfolding kept_in index_is_good
plain_good label contents plain =
    ap (λ (b : Bool). if b then is_good_index (index_in (layout_of label) label.count (file_bytes label contents)) (keys_of (key_place label) (records_in label.record_length label.count (file_bytes label contents))) else true) plain

pub keyed_good : (label : FileLabel) (contents : List (List ℕ)) (answer : Bool) → is_indexed label.organization ≡ true
    → is_good_index (index_in (layout_of label) label.count (bytes_at (sectors_of label) contents)) (keys_at (layout_of label) label.count (bytes_at (sectors_of label) contents)) ≡ answer
    → (kept_on label contents).has_good_index ≡ answer
unfolding kept_in index_is_good file_bytes
keyed_good label contents answer indexed good =
    ap (λ (b : Bool). if b then is_good_index (index_in (layout_of label) label.count (bytes_at (sectors_of label) contents)) (keys_at (layout_of label) label.count (bytes_at (sectors_of label) contents)) else true) indexed
    ∙ good

records_kept : (label : FileLabel) (contents : List (List ℕ)) → (kept_on label contents).records ≡ records_in label.record_length label.count (bytes_at (sectors_of label) contents)
unfolding kept_in file_bytes
records_kept label contents = refl

pub plain_kept : (label : FileLabel) (contents : List (List ℕ)) (file : Sequential) → file.sectors ≡ sectors_of label → file.record_length ≡ label.record_length → file.count ≡ label.count
    → (kept_on label contents).records ≡ records_on (shape_of file) contents
plain_kept label contents file sectors long count =
    records_kept label contents
    ∙ ap₂ (λ l n. records_in l n (bytes_at (sectors_of label) contents)) (sym long) (sym count)
    ∙ ap (λ s. records_in file.record_length file.count (bytes_at s contents)) (sym sectors)

pub keyed_kept : (label : FileLabel) (contents : List (List ℕ)) (file : KeyedFile) → file ≡ opened_of (sectors_of label) (layout_of label) label.count
    → (kept_on label contents).records ≡ records_now file contents
keyed_kept label contents file opened = records_kept label contents ∙ ap (λ (f : KeyedFile). records_now f contents) (sym opened)

-- what was checked is the file of the label
pub some_opened : (label : FileLabel) (checked : Option Keyed) (file : Keyed) → IfSome checked (λ f. shown f ≡ opened_of (sectors_of label) (layout_of label) label.count) → checked ≡ Some file
    → shown file ≡ opened_of (sectors_of label) (layout_of label) label.count
some_opened label checked file opened is = subst (λ o. IfSome o (λ f. shown f ≡ opened_of (sectors_of label) (layout_of label) label.count)) is opened

pub keyed_of_label : (label : FileLabel) (contents : List (List ℕ)) (checked : Option Keyed) (file : Keyed) → is_indexed label.organization ≡ true
    → IfSome checked (λ f. shown f ≡ opened_of (sectors_of label) (layout_of label) label.count) → IfSome checked (λ f. HasKeyOrder (shown f) contents) → checked ≡ Some file
    → AreOf label contents (ByKey file)
keyed_of_label label contents checked file indexed opened ordered is =
    let of_label : shown file ≡ opened_of (sectors_of label) (layout_of label) label.count = some_opened label checked file opened is in
    record {
      indexed = indexed;
      sectors = ap (λ (f : KeyedFile). f.sectors) of_label;
      layout = ap (λ (f : KeyedFile). f.layout) of_label;
      started = ap (λ (f : KeyedFile). f.started) of_label;
      order = subst (λ o. IfSome o (λ f. HasKeyOrder (shown f) contents)) is ordered;
    }

pub plain_of_label : (label : FileLabel) (contents : List (List ℕ)) (file : Sequential) → is_indexed label.organization ≡ false
    → file.sectors ≡ sectors_of label → file.record_length ≡ label.record_length → file.capacity ≡ label.capacity → file.count ≡ label.count → AreOf label contents (InOrder file)
plain_of_label label contents file plain sectors long capacity count =
    record { plain = plain; sectors = sectors; record_length = long; capacity = capacity; started = omega (arith, count) }
