-- Nothing is changed of a file where none of its sectors is.
use Rattle.std.proofs.Common.{◌≡◌, ◌^◌, ℕ, suc, List, [], ◌∷◌, ◌++◌, arith, take, replicate, refl, ap, ap₂, sym, subst}
use Rattle.std.specs.Prelude.{slice_get, unwrap_or}
use Rattle.std.specs.List.{All}
use Rattle.s3_store.specs.Bytes.{sector_bytes, bytes_at}
use Rattle.s3_slots.specs.Labels.{sectors_of, file_bytes}
use Rattle.s3_slots.specs.declared.label.FileLabel.{FileLabel}
use Rattle.s3_files.specs.Records.{records_in}
use Rattle.s3_keyed.specs.Inner.Keyed.{KeyedFile, IsOrdered, shown}
use Rattle.s3_keyed.specs.Index.{index_in, keys_of}
use Rattle.s3_job_files.specs.declared.records.OpenRecords.{OpenRecords}
use Rattle.s3_job_files.specs.declared.records.OpenRecords.TheVariants.{InOrder, ByKey}
use Rattle.s3_job_files.specs.Kept.{kept_in, kept_on}
use Rattle.s3_job_files.specs.Inner.Holds.{AreOf, records_of}

abbrev pub SameAt : List (List ℕ) → List (List ℕ) → ℕ → Type 0
SameAt old new n = slice_get new n ≡ slice_get old n

same_sector : (old new : List (List ℕ)) (n : ℕ) → SameAt old new n → sector_bytes new n ≡ sector_bytes old n
unfolding sector_bytes
same_sector old new n same = ap (λ sector. take 256 (unwrap_or sector [] ++ replicate 256 0)) same

pub same_bytes : (old new : List (List ℕ)) (sectors : List ℕ) → All (SameAt old new) sectors → bytes_at sectors new ≡ bytes_at sectors old
unfolding bytes_at
same_bytes old new [] same = refl
same_bytes old new (n ∷ sectors) same =
    ap₂ (λ first more. first ++ more) (same_sector old new n (same 0 n (omega arith)))
    (same_bytes old new sectors (λ k d lt. same (suc k) d (omega arith)))

-- what is kept of it
pub same_kept : (old new : List (List ℕ)) (label : FileLabel) → All (SameAt old new) (sectors_of label) → kept_on label new ≡ kept_on label old
unfolding file_bytes
same_kept old new label same = ap (kept_in label) (same_bytes old new (sectors_of label) same)

-- its records
pub same_records : (old new : List (List ℕ)) (label : FileLabel) (records : OpenRecords) → All (SameAt old new) (sectors_of label) → AreOf label old records
    → records_of records new ≡ records_of records old
same_records old new label (InOrder file) same of_label =
    ap (records_in file.record_length file.count) (same_bytes old new file.sectors (subst (All (SameAt old new)) (sym of_label.sectors) same))
same_records old new label (ByKey file) same of_label =
    ap (records_in (shown file).layout.record_length (shown file).count) (same_bytes old new (shown file).sectors (subst (All (SameAt old new)) (sym of_label.sectors) same))

abbrev orders : KeyedFile → List ℕ → Type 0
orders file bytes =
    IsOrdered file.started file.indexed (256 ^ file.layout.key.length)
    (index_in file.layout file.started bytes) (index_in file.layout file.indexed bytes) file.added (keys_of file.layout.key (records_in file.layout.record_length file.count bytes))

-- they are still those of its label
pub same_of : (old new : List (List ℕ)) (label : FileLabel) (records : OpenRecords) → All (SameAt old new) (sectors_of label) → AreOf label old records → AreOf label new records
same_of old new label (InOrder file) same of_label = of_label
same_of old new label (ByKey file) same of_label = record {
  indexed = of_label.indexed;
  sectors = of_label.sectors;
  layout = of_label.layout;
  started = of_label.started;
  order = subst (orders (shown file)) (sym (same_bytes old new (shown file).sectors (subst (All (SameAt old new)) (sym of_label.sectors) same))) of_label.order;
}
