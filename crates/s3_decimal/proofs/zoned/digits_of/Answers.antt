use Rattle.std.proofs.Common.{arith, ◌≡◌, ◌%◌, ap, sym, ◌∙◌, map, take, length, get_or}
use Rattle.s3_decimal.specs.Records.{number_of, cleaned, has_bad_digit, zoned_digits}
use Rattle.s3_decimal.proofs.Powers.{ten_le}
use Rattle.s3_decimal.proofs.DigitsRead.{number_read, bad_read, zoned_more, zoned_so_far}
use Rattle.s3_decimal.proofs.zoned.digits_of.Goals as goal

pub push-requires : goal.push-requires
push-requires c =
    let h = zoned_so_far c.args.bytes.now c.loop-byte.byte-index c.loop-byte.reading.magnitude (omega arith) c.loop-byte.invariant.number in
    omega (arith, h, ten_le c.loop-byte.byte-index 15 (omega arith))

pub loop-byte-preserved : goal.loop-byte-preserved
loop-byte-preserved c =
    let more = zoned_more c.args.bytes.now c.loop-byte.byte-index c.loop-byte-test.true in
    record {
      number = c.push.ensures.magnitude
          ∙ number_read (zoned_digits (take c.loop-byte.byte-index c.args.bytes.now)) (get_or c.args.bytes.now c.loop-byte.byte-index 0 % 16) c.loop-byte.reading.magnitude c.loop-byte.invariant.number
          ∙ ap (λ ds. number_of (map cleaned ds)) (sym more);
      fault = c.push.ensures.bad
          ∙ bad_read (zoned_digits (take c.loop-byte.byte-index c.args.bytes.now)) (get_or c.args.bytes.now c.loop-byte.byte-index 0 % 16) c.loop-byte.reading.bad c.loop-byte.invariant.fault
          ∙ ap has_bad_digit (sym more);
    }

pub returns-clause-bound : goal.returns-clause-bound
returns-clause-bound c =
    let end : c.loop-byte.byte-index ≡ length c.args.bytes.now = omega arith in
    rw (← end) (zoned_so_far c.args.bytes.now c.loop-byte.byte-index c.loop-byte.reading.magnitude (omega arith) c.loop-byte.invariant.number)
