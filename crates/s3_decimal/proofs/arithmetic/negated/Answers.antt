use Rattle.std.proofs.Common.{arith, ◌^◌, ◌<◌, unsigned_abs}
use Rattle.std.proofs.lemmas.Int.{ints}
use Rattle.s3_decimal.proofs.Bounds.{digits_below}
use Rattle.s3_decimal.proofs.arithmetic.negated.Goals as goal

pub overflow_sub-result : goal.overflow_sub-result
overflow_sub-result c =
    let v = c.args.number in
    let a : unsigned_abs v.value < 10 ^ 15 = digits_below v.value v.digits v.within_digits v.within_longest in
    omega (arith, ints)

pub returns-clause-value : goal.returns-clause-value
returns-clause-value c =
    let v = c.args.number in
    let a : unsigned_abs v.value < 10 ^ 15 = digits_below v.value v.digits v.within_digits v.within_longest in
    omega (arith, ints)
