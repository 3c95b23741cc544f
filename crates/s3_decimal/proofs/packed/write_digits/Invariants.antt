use Rattle.std.proofs.Common.{◌≡◌, ◌-◌, ◌+◌, ◌*◌, ◌/◌, ◌^◌, drop, unsigned_abs}
use Rattle.s3_decimal.specs.Exact.{is_negative}
use Rattle.s3_decimal.specs.Records.{packed_bytes}
use Rattle.s3_decimal.proofs.packed.write_digits.Given as goal

abbrev pub invariant-loop-place : goal.invariant-loop-place
invariant-loop-place l = record {
  written : drop (l.last - l.place) l.bytes ≡ packed_bytes (is_negative l.fn.number.value) (l.place + 1) (unsigned_abs l.fn.number.value);
  left : l.rest ≡ unsigned_abs l.fn.number.value / 10 ^ (2 * l.place + 1);
}
