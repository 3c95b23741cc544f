-- The records of a file that are read and written.
use Rattle.std.proofs.Common.{◌≡◌, ℕ, ◌*◌, List, refl, sym, ◌∙◌, ap, subst}
use Rattle.std.specs.Prelude.{Some, slice_get, slice_set}
use Rattle.s3_store.specs.Bytes.{bytes_at}
use Rattle.s3_store.specs.Inner.Bytes.{SameOutside}
use Rattle.s3_slots.specs.Labels.{file_bytes, sectors_of}
use Rattle.s3_slots.specs.declared.label.FileLabel.{FileLabel}
use Rattle.s3_files.specs.Records.{records_in}
use Rattle.s3_unload.specs.Inner.Ordered.{in_order}

in_order_is : (label : FileLabel) (contents : List (List ℕ)) → records_in label.record_length label.count (bytes_at (sectors_of label) contents) ≡ in_order label contents
unfolding in_order file_bytes
in_order_is label contents = refl

file_is : (label : FileLabel) (contents : List (List ℕ)) → bytes_at (sectors_of label) contents ≡ file_bytes label contents
unfolding file_bytes
file_is label contents = refl

-- a file that has the sectors, the record length and the count of a label
module _ (label : FileLabel) (sectors : List ℕ) (long count : ℕ) (here : sectors ≡ sectors_of label) (wide : long ≡ label.record_length) (many : count ≡ label.count) where
  records_are : (contents : List (List ℕ)) → records_in long count (bytes_at sectors contents) ≡ in_order label contents
  records_are contents = rw (here, wide, many) (in_order_is label contents)

  pub record_read : (contents : List (List ℕ)) (place : ℕ) (bytes : List ℕ) → slice_get (records_in long count (bytes_at sectors contents)) place ≡ Some bytes → slice_get (in_order label contents) place ≡ Some bytes
  record_read contents place bytes got = subst (λ rs. slice_get rs place ≡ Some bytes) (records_are contents) got

  pub record_put : (old new : List (List ℕ)) (place : ℕ) (bytes : List ℕ) → records_in long count (bytes_at sectors new) ≡ slice_set (records_in long count (bytes_at sectors old)) place bytes
      → in_order label new ≡ slice_set (in_order label old) place bytes
  record_put old new place bytes put = sym (records_are new) ∙ put ∙ ap (λ rs. slice_set rs place bytes) (records_are old)

  pub others_kept : (old new : List (List ℕ)) (place : ℕ) → SameOutside (place * long) long (bytes_at sectors old) (bytes_at sectors new) → SameOutside (place * label.record_length) label.record_length (file_bytes label old) (file_bytes label new)
  others_kept old new place same =
      subst (λ w. SameOutside (place * w) w (file_bytes label old) (file_bytes label new)) wide
      (subst (λ b. SameOutside (place * long) long b (file_bytes label new)) (ap (λ s. bytes_at s old) here ∙ file_is label old)
      (subst (λ b. SameOutside (place * long) long (bytes_at sectors old) b) (ap (λ s. bytes_at s new) here ∙ file_is label new) same))
