use Rattle.std.proofs.Common.{arith, ◌-◌, ◌∙◌, ap, map, length}
use Rattle.s3_decimal.specs.Records.{cleaned, number_of, zoned_digits}
use Rattle.s3_decimal.proofs.DigitsMoved.{moved_is, rest_of}
use Rattle.s3_decimal.proofs.moving.move_bytes.Goals as goal

pub returns-clause-value : goal.returns-clause-value
returns-clause-value c =
    let from = c.args.source.now in
    let low = c.digits_of-reading.ensures.magnitude ∙ ap (λ bs. number_of (map cleaned (zoned_digits bs))) (rest_of from (length from - c.min-places.result)) in
    let number = moved_is from c.args.target.digits c.args.target.value c.min-places.result c.digits_of-reading.result.magnitude (omega arith) c.args.target.within_digits low in
    rw (← number) c.replaced.ensures.value
