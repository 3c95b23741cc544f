use Rattle.std.proofs.Common.{arith, ℕ, ◌≡◌, ◌+◌, ◌-◌, ◌/◌, ◌∷◌, ap, ◌∙◌, drop, length, slice_set, unsigned_abs}
use Rattle.std.proofs.lemmas.List.{length-set}
use Rattle.s3_decimal.specs.Exact.{is_negative}
use Rattle.s3_decimal.specs.Records.{packed_bytes}
use Rattle.s3_decimal.proofs.DigitsWritten.{back_written, packed_more}
use Rattle.s3_decimal.proofs.PairLemmas.{packed_two, packed_next}
use Rattle.s3_decimal.proofs.packed.write_digits.Goals as goal

pub loop-place-preserved : goal.loop-place-preserved
loop-place-preserved c =
    let v = unsigned_abs c.args.number.value in
    let b = is_negative c.args.number.value in
    let n = length c.args.bytes.now in
    let p = c.loop-place.place in
    let from : n - (p + 1) ≡ n - 1 - p = omega arith in
    let at : n - 1 - 1 - p ≡ n - 1 - (p + 1) = omega arith in
    let to : n - 1 - (p + 1) ≡ n - (p + 1 + 1) = omega arith in
    record {
      written = ap (λ k. drop k (slice_set c.loop-place.bytes (n - 1 - 1 - p) c.packed_pair.result)) to
          ∙ ap (λ k. drop (n - (p + 1 + 1)) (slice_set c.loop-place.bytes k c.packed_pair.result)) at
          ∙ back_written c.loop-place.bytes n (p + 1) c.packed_pair.result (packed_bytes b (p + 1) v) (omega (arith, length-set {A = ℕ})) (omega arith) (ap (λ k. drop k c.loop-place.bytes) from ∙ c.loop-place.invariant.written)
          ∙ ap (λ t. t ∷ packed_bytes b (p + 1) v) (packed_two b p v c.loop-place.rest c.packed_pair.result c.loop-place.invariant.left c.packed_pair.ensures)
          ∙ packed_more b (p + 1) v;
      left = ap (λ t. t / 100) c.loop-place.invariant.left ∙ packed_next v p;
    }

pub returns : goal.returns
returns c =
    let none : 0 ≡ length c.args.bytes.now - 1 - c.loop-place.place = omega arith in
    let all : c.loop-place.place + 1 ≡ c.args.number.digits / 2 + 1 = omega arith in
    ap (λ k. drop k c.loop-place.bytes) none ∙ c.loop-place.invariant.written
    ∙ ap (λ k. packed_bytes (is_negative c.args.number.value) k (unsigned_abs c.args.number.value)) all
