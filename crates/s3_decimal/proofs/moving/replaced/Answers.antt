use Rattle.std.proofs.Common.{arith, ◌^◌, ◌<◌, ◌+◌, ◌*◌, ◌/◌, FitsSigned, w64, rules}
use Rattle.s3_decimal.proofs.Bounds.{kept_below}
use Rattle.s3_decimal.proofs.Powers.{ten_le}
use Rattle.s3_decimal.proofs.DigitsMoved.{replaced_below}
use Rattle.s3_decimal.proofs.moving.replaced.Goals as goal

pub with_sign-requires : goal.with_sign-requires
with_sign-requires c =
    let target : c.unsigned_abs.result < 10 ^ c.args.target.digits = grind arith in
    let below : c.unsigned_abs.result / c.short_power_of_ten-unit.result * c.short_power_of_ten-unit.result + c.args.low < 10 ^ c.args.target.digits =
    rw (c.short_power_of_ten-unit.ensures.value) (replaced_below c.args.low c.unsigned_abs.result c.args.places c.args.target.digits c.requires.within target c.requires.low) in
    omega (arith, below, ten_le c.args.target.digits 15 c.args.target.within_longest)

pub invariant_of-result-clause-within_digits : goal.invariant_of-result-clause-within_digits
invariant_of-result-clause-within_digits c =
    let fits : FitsSigned w64 c.with_sign.result = search rules in
    let target : c.unsigned_abs.result < 10 ^ c.args.target.digits = grind arith in
    kept_below c.with_sign.result c.args.negative (c.unsigned_abs.result / c.short_power_of_ten-unit.result * c.short_power_of_ten-unit.result + c.args.low) (10 ^ c.args.target.digits) fits c.with_sign.ensures
    (rw (c.short_power_of_ten-unit.ensures.value) (replaced_below c.args.low c.unsigned_abs.result c.args.places c.args.target.digits c.requires.within target c.requires.low))
