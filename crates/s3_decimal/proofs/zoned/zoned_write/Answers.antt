use Rattle.std.proofs.Common.{arith, ap, ◌∙◌, unsigned_abs}
use Rattle.s3_decimal.specs.Exact.{is_negative}
use Rattle.s3_decimal.specs.Records.{zoned_number, has_bad_digit, zoned_digits}
use Rattle.s3_decimal.proofs.DigitsWritten.{zoned_back, zoned_good}
use Rattle.s3_decimal.proofs.zoned.zoned_write.Goals as goal

pub returns-clause-read_back : goal.returns-clause-read_back
returns-clause-read_back c =
    ap zoned_number c.write_digits.ensures ∙ zoned_back c.args.number.digits c.args.number.value (omega arith) c.args.number.within_digits

pub returns-clause-good : goal.returns-clause-good
returns-clause-good c =
    ap (λ bs. has_bad_digit (zoned_digits bs)) c.write_digits.ensures ∙ zoned_good (is_negative c.args.number.value) c.args.number.digits (unsigned_abs c.args.number.value)
