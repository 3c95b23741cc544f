use Rattle.std.proofs.Common.{◌≡◌, ℕ, suc, ◌+◌, ◌-◌, ◌*◌, ◌/◌, ◌^◌, ap, ◌∙◌, arith, drop, length, unsigned_abs}
use Rattle.std.proofs.lemmas.List.{length-set}
use Rattle.s3_decimal.specs.Exact.{is_negative}
use Rattle.s3_decimal.specs.Records.{zoned_bytes}
use Rattle.s3_decimal.proofs.PairLemmas.{next_two, zoned_pair}
use Rattle.s3_decimal.proofs.zoned.write_digits.Goals as goal

pub loop-pair-preserved : goal.loop-pair-preserved
loop-pair-preserved c =
    let b = is_negative c.args.number.value in
    let v = unsigned_abs c.args.number.value in
    let k : ℕ = 2 * c.loop-pair.pair in
    let further : suc (suc (suc k)) ≡ suc (2 * (c.loop-pair.pair + 1)) = omega arith in
    let same = length-set c.args.bytes.now (length c.args.bytes.now - 1) c.signed_digit.result in
    let from : length c.loop-pair.bytes - (1 + k) ≡ length c.args.bytes.now - suc k = omega (arith, same) in
    let to : length c.args.bytes.now - suc (2 * (c.loop-pair.pair + 1)) ≡ length c.loop-pair.bytes - (1 + k + 2) = omega (arith, same) in
    record {
      written = ap (λ n. drop n c.write_pair.new.bytes) to
          ∙ c.write_pair.ensures (zoned_bytes b (suc k) v) (ap (λ n. drop n c.loop-pair.bytes) from ∙ c.loop-pair.invariant.written)
          ∙ zoned_pair b k v c.loop-pair.rest _ _ c.loop-pair.invariant.left c.pair_of.ensures.tens c.pair_of.ensures.units
          ∙ ap (λ n. zoned_bytes b n v) further;
      left = ap (λ n. n / 100) c.loop-pair.invariant.left ∙ next_two v k ∙ ap (λ n. v / 10 ^ n) further;
    }
