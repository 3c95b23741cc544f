use Rattle.std.proofs.Common.{arith, ◌≡◌, ◌^◌, ◌<◌, unsigned_abs}
use Rattle.s3_decimal.proofs.Bounds.{digits_below, magnitude_below, magnitude_positive}
use Rattle.s3_decimal.proofs.scale.magnitude_at.Goals as goal

pub returns-clause-bound : goal.returns-clause-bound
returns-clause-bound c =
    let v = c.args.number in
    let small : unsigned_abs v.value < 10 ^ 15 = digits_below v.value v.digits v.within_digits v.within_longest in
    let same : c.from.result ≡ unsigned_abs v.value = grind arith in
    rw (same, c.from-2.ensures, c.short_power_of_ten.ensures.value) (magnitude_below (unsigned_abs v.value) c.args.places small)

pub returns-clause-positive : goal.returns-clause-positive
returns-clause-positive c =
    λ h. let same : c.from.result ≡ unsigned_abs c.args.number.value = grind arith in
    rw (same, c.from-2.ensures, c.short_power_of_ten.ensures.value) (magnitude_positive c.args.number.value c.args.places h)
