-- The records in the bytes of a file, when one of them is read or written.
use Rattle.std.proofs.Common.{◌≡◌, ◌<◌, ◌≤◌, ◌+◌, ◌*◌, ℕ, List, [], ◌∷◌, ◌++◌, length, slice_get, slice_set, Some, sym, subst, ◌∙◌, arith}
use Rattle.std.proofs.Math.Nat.{mul-le-mul_left}
use Rattle.s3_store.specs.Bytes.{part}
use Rattle.s3_store.specs.Inner.Bytes.{SameOutside}
use Rattle.s3_files.specs.Records.{records_in}
use Rattle.s3_files.specs.Inner.Files.{IsReadInPart}
use Rattle.s3_files.proofs.PartLemmas.{length-parts, slice_get-parts, parts-set, parts-push, parts-before, end_to_end}

pub length_records : (long count : ℕ) (bytes : List ℕ) → length (records_in long count bytes) ≡ count
unfolding records_in
length_records long count bytes = length-parts (λ i. i * long) long count bytes

pub get_record : (long count i : ℕ) (bytes : List ℕ) → i < count → slice_get (records_in long count bytes) i ≡ Some (part bytes (i * long) long)
unfolding records_in
get_record long count i bytes h = slice_get-parts (λ i. i * long) long count bytes i h

-- what was read in part is the record that is there
pub of_record : (long count i : ℕ) (bytes old new whole : List ℕ) → i < count → slice_get (records_in long count bytes) i ≡ Some whole → IsReadInPart (part bytes (i * long) long) old new → IsReadInPart whole old new
of_record long count i bytes old new whole within there partly =
    let some : Some (part bytes (i * long) long) ≡ Some whole = sym (get_record long count i bytes within) ∙ there in
    let same : part bytes (i * long) long ≡ whole = cc in
    subst (λ w. IsReadInPart w old new) same partly

pub records_set : (long count i : ℕ) (s t v : List ℕ) → i < count → SameOutside (i * long) long s t → part t (i * long) long ≡ v → records_in long count t ≡ slice_set (records_in long count s) i v
unfolding records_in
records_set long count i s t v h same is = parts-set (λ i. i * long) long count i s t v (end_to_end long count) h same is

pub records_push : (long count : ℕ) (s t v : List ℕ) → SameOutside (count * long) long s t → part t (count * long) long ≡ v → records_in long (count + 1) t ≡ records_in long count s ++ v ∷ []
unfolding records_in
records_push long count s t v same is = parts-push (λ i. i * long) long count (count + 1) s t v (end_to_end long (count + 1)) (omega arith) same is

-- a write after the records leaves them unchanged
pub records_before : (long count at width : ℕ) (s t : List ℕ) → count * long ≤ at → SameOutside at width s t → records_in long count t ≡ records_in long count s
unfolding records_in
records_before long count at width s t behind same = parts-before (λ i. i * long) long count at width s t (λ i below. let up : i + 1 ≤ count = omega arith in omega (arith, mul-le-mul_left long up)) same
