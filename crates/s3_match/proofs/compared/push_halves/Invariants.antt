use Rattle.std.proofs.Common.{◌≡◌, ◌++◌, drop}
use Rattle.s3_decimal.specs.Records.{halves}
use Rattle.s3_match.proofs.compared.push_halves.Given as goal

abbrev pub invariant-loop-byte : goal.invariant-loop-byte
invariant-loop-byte l = l.compared ++ halves (drop l.byte-index l.bytes) ≡ l.fn.compared ++ halves l.bytes
