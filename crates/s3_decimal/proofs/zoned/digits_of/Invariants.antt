use Rattle.std.proofs.Common.{◌≡◌, map, take}
use Rattle.s3_decimal.specs.Records.{number_of, cleaned, has_bad_digit, zoned_digits}
use Rattle.s3_decimal.proofs.zoned.digits_of.Given as goal

abbrev pub invariant-loop-byte : goal.invariant-loop-byte
invariant-loop-byte l = record {
  number : l.reading.magnitude ≡ number_of (map cleaned (zoned_digits (take l.byte-index l.bytes)));
  fault : l.reading.bad ≡ has_bad_digit (zoned_digits (take l.byte-index l.bytes));
}
