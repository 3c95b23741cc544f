use Rattle.std.proofs.Common.{◌≡◌, ◌-◌, ◌*◌, ◌/◌, ◌^◌, drop, unsigned_abs, suc}
use Rattle.s3_decimal.specs.Exact.{is_negative}
use Rattle.s3_decimal.specs.Records.{zoned_bytes}
use Rattle.s3_decimal.proofs.zoned.write_digits.Given as goal

abbrev pub invariant-loop-pair : goal.invariant-loop-pair
invariant-loop-pair l = record {
  written : drop (l.count - suc (2 * l.pair)) l.bytes ≡ zoned_bytes (is_negative l.fn.number.value) (suc (2 * l.pair)) (unsigned_abs l.fn.number.value);
  left : l.rest ≡ unsigned_abs l.fn.number.value / 10 ^ suc (2 * l.pair);
}
