use Rattle.std.proofs.Common.{◌≡◌, ◌++◌, drop}
use Rattle.s3_decimal.specs.Records.{zoned_digits}
use Rattle.s3_match.proofs.compared.push_zoned.Given as goal

abbrev pub invariant-loop-byte : goal.invariant-loop-byte
invariant-loop-byte l = l.compared ++ zoned_digits (drop l.byte-index l.bytes) ≡ l.fn.compared ++ zoned_digits l.bytes
