use Rattle.std.proofs.Common.{◌≡◌, take}
use Rattle.s3_record_types.specs.Inner.Codes.{with_codes}
use Rattle.s3_record_types.proofs.codes.put_codes.Given as goal

abbrev pub invariant-loop-code : goal.invariant-loop-code
invariant-loop-code l = l.bytes ≡ with_codes l.initial.bytes (take l.code-index l.codes)
