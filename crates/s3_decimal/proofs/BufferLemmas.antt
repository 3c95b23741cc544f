-- Parts of a record, and of the buffer that has the record after eight bytes.
use Rattle.std.proofs.Common.{◌≡◌, ℕ, ◌+◌, ◌-◌, ◌≤◌, arith, sym, ◌∙◌, ap, subst, List, ◌++◌, length, take, drop, length-drop}
use Rattle.std.specs.Prelude.{slice_range}
use Rattle.std.proofs.Math.Seq.{take-add}
use Rattle.std.proofs.lemmas.List.{drop-drop, drop-take, length-take-le, take-take}
use Rattle.s3_decimal.specs.Inner.Words.{in_base}
use Rattle.s3_decimal.specs.Inner.Reaching.{EndsWord}

-- the record ends where the buffer does, or before
pub record_size : (buffer : List ℕ) (size : ℕ) → length buffer ≡ 1032 → size ≤ 1024 → length (slice_range buffer 8 (8 + size)) ≡ size
record_size buffer size all few = length-take-le (8 + size - 8) (drop 8 buffer) (omega (arith, length-drop 8 buffer, all, few)) ∙ omega arith

-- ---- a part of the record is a part of the buffer
pub part_of_record : (buffer : List ℕ) (size start end : ℕ) → length buffer ≡ 1032 → size ≤ 1024 → start ≤ end → end ≤ length (slice_range buffer 8 (8 + size))
    → slice_range buffer (8 + start) (8 + end) ≡ slice_range (slice_range buffer 8 (8 + size)) start end
part_of_record buffer size start end all few order within =
    let sized : length (slice_range buffer 8 (8 + size)) ≡ size = record_size buffer size all few in
    ap (λ n. take n (drop (8 + start) buffer)) (omega (arith, order))
    ∙ sym (take-take (end - start) (size - start) (drop (8 + start) buffer) (omega (arith, order, within, sized)))
    ∙ ap (λ xs. take (end - start) (take (size - start) xs)) (sym (drop-drop start 8 buffer))
    ∙ ap (take (end - start)) (sym (drop-take start (size - start) (drop 8 buffer)))
    ∙ ap (λ n. take (end - start) (drop start (take n (drop 8 buffer)))) (omega (arith, order, within, sized))

-- ---- eight bytes of the buffer
pub ends_word : (buffer : List ℕ) (size end word : ℕ) → length buffer ≡ 1032 → size ≤ 1024 → end ≤ length (slice_range buffer 8 (8 + size)) → word ≡ in_base 256 (slice_range buffer end (end + 8))
    → (start : ℕ) → start ≤ end → end - start ≤ 8 → EndsWord (slice_range (slice_range buffer 8 (8 + size)) start end) word
ends_word buffer size end word all few within is start order short =
    let sized : length (slice_range buffer 8 (8 + size)) ≡ size = record_size buffer size all few in
    let k = 8 + start - end in
    let part : slice_range buffer (8 + start) (8 + end) ≡ slice_range (slice_range buffer 8 (8 + size)) start end = part_of_record buffer size start end all few order within in
    let behind : drop k (drop end buffer) ≡ drop (8 + start) buffer = drop-drop k end buffer ∙ ap (λ m. drop m buffer) (omega (arith, order, short)) in
    subst (λ (bytes : List ℕ). EndsWord bytes word) part
    (record {
      before = take k (drop end buffer);
      eight = omega (
        arith,
        length-take-le k (drop end buffer) (omega (arith, length-drop end buffer, all, few, within, sized, order)),
        length-take-le (8 + end - (8 + start)) (drop (8 + start) buffer) (omega (arith, length-drop (8 + start) buffer, all, few, within, sized, order)),
        order,
        short,
      );
      is = is ∙ ap (λ n. in_base 256 (take n (drop end buffer))) (omega (arith, order, short)) ∙ ap (in_base 256) (take-add k (8 + end - (8 + start)) (drop end buffer))
          ∙ ap (λ xs. in_base 256 (take k (drop end buffer) ++ take (8 + end - (8 + start)) xs)) behind;
    })
