use Rattle.std.proofs.Common.{arith, ◌^◌, ◌≤◌, ◌<◌, ◌*◌, ◌+◌, ◌%◌, unsigned_abs, rules, FitsSigned}
use Rattle.std.specs.Int.{w128}
use Rattle.std.proofs.lemmas.Nat.{mod_below}
use Rattle.std.proofs.lemmas.Int.{ints}
use Rattle.s3_decimal.proofs.Powers.{ten_le}
use Rattle.s3_decimal.proofs.Bounds.{wide_below, wide_value}
use Rattle.s3_decimal.proofs.Dividing.{stored_quotient, stored_remainder}
use Rattle.s3_decimal.proofs.division.div_mvr.Goals as goal

pub returns-clause-quotient_value : goal.returns-clause-quotient_value
returns-clause-quotient_value c =
    let v = c.args.dividend in
    let w = c.args.divisor in
    let positive : 0 < unsigned_abs w.value * 10 ^ v.decimals = rw (← c.magnitude_at-unit.ensures.value) (c.magnitude_at-unit.ensures.positive (λ e. omega (arith, ints))) in
    rw (c.kept.ensures.value, c.is_negative.ensures, c.is_negative-2.ensures, c.whole_units-count.ensures, c.magnitude_at-parts.ensures.value, c.magnitude_at-unit.ensures.value)
    (stored_quotient c.args.rounding c.args.quotient.digits c.args.quotient.decimals v.value w.value v.decimals w.decimals positive)

pub returns-clause-remainder_value : goal.returns-clause-remainder_value
returns-clause-remainder_value c =
    let v = c.args.dividend in
    let w = c.args.divisor in
    let fits : FitsSigned w128 c.wide_with_sign-left.result = search rules in
    let positive : 0 < unsigned_abs w.value * 10 ^ v.decimals = rw (← c.magnitude_at-unit.ensures.value) (c.magnitude_at-unit.ensures.positive (λ e. omega (arith, ints))) in
    rw (c.store.ensures.value, wide_value c.wide_with_sign-left.result c.is_negative-3.result c.left_over.result fits c.wide_with_sign-left.ensures, c.left_over.ensures, c.is_negative-3.ensures, c.magnitude_at-parts.ensures.value, c.magnitude_at-unit.ensures.value)
    (stored_remainder c.args.remainder.digits c.args.quotient.decimals c.args.remainder.decimals v.value w.value v.decimals w.decimals positive)

pub whole_units-count-requires-clause-small : goal.whole_units-count-requires-clause-small
whole_units-count-requires-clause-small c =
    let parts : 10 ^ (c.args.divisor.decimals + c.args.quotient.decimals) ≤ 10 ^ 18 = ten_le (c.args.divisor.decimals + c.args.quotient.decimals) 18 (omega arith) in
    let unit : 10 ^ c.args.dividend.decimals ≤ 10 ^ 9 = ten_le c.args.dividend.decimals 9 (omega arith) in
    omega arith

pub store-requires-clause-small : goal.store-requires-clause-small
store-requires-clause-small c =
    let fits : FitsSigned w128 c.wide_with_sign-left.result = search rules in
    let unit : 10 ^ c.args.dividend.decimals ≤ 10 ^ 9 = ten_le c.args.dividend.decimals 9 (omega arith) in
    let rest : c.magnitude_at-parts.result % c.magnitude_at-unit.result < c.magnitude_at-unit.result = mod_below c.magnitude_at-parts.result c.magnitude_at-unit.result (c.magnitude_at-unit.ensures.positive (λ e. omega (arith, ints))) in
    wide_below c.wide_with_sign-left.result c.is_negative-3.result c.left_over.result (10 ^ 30) fits c.wide_with_sign-left.ensures (omega arith)
