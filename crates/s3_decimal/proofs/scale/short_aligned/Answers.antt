use Rattle.std.proofs.Common.{arith, ◌^◌, ◌-◌, w64, pos, ◌*ℤ◌}
use Rattle.std.proofs.lemmas.Int.{to_z-of_z, fits_signed_from_abs}
use Rattle.s3_decimal.proofs.Bounds.{digits_below, short_below, short_whole}
use Rattle.s3_decimal.proofs.scale.short_aligned.Goals as goal

pub overflow_mul-result : goal.overflow_mul-result
overflow_mul-result c =
    let n = c.args.number in
    let small = short_below n.value n.digits n.decimals c.args.decimals n.within_digits c.requires.more c.requires.short in
    let whole =
    short_whole n.value c.short_power_of_ten-unit.result _ (digits_below n.value n.digits n.within_digits n.within_longest) c.short_power_of_ten-unit.ensures.value c.short_power_of_ten-unit.ensures.bound in
    rw whole (fits_signed_from_abs w64 _ (omega (arith, small)))

pub returns-clause-value : goal.returns-clause-value
returns-clause-value c =
    let n = c.args.number in
    let small = short_below n.value n.digits n.decimals c.args.decimals n.within_digits c.requires.more c.requires.short in
    let whole =
    short_whole n.value c.short_power_of_ten-unit.result _ (digits_below n.value n.digits n.within_digits n.within_longest) c.short_power_of_ten-unit.ensures.value c.short_power_of_ten-unit.ensures.bound in
    rw whole (to_z-of_z w64 _ (fits_signed_from_abs w64 _ (omega (arith, small))))

pub returns-clause-bound : goal.returns-clause-bound
returns-clause-bound c =
    let n = c.args.number in
    let small = short_below n.value n.digits n.decimals c.args.decimals n.within_digits c.requires.more c.requires.short in
    let whole =
    short_whole n.value c.short_power_of_ten-unit.result _ (digits_below n.value n.digits n.within_digits n.within_longest) c.short_power_of_ten-unit.ensures.value c.short_power_of_ten-unit.ensures.bound in
    rw (whole, to_z-of_z w64 (n.value *ℤ pos (10 ^ (c.args.decimals - n.decimals))) (fits_signed_from_abs w64 _ (omega (arith, small)))) small
