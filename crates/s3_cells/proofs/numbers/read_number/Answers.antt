use Rattle.std.proofs.Common.{◌<◌, ◌^◌, arith}
use Rattle.s3_decimal.proofs.Powers.{ten_le}
use Rattle.s3_cells.proofs.NumberLemmas.{number_said}
use Rattle.s3_cells.proofs.numbers.read_number.Goals as goal

pub with_sign-requires : goal.with_sign-requires
with_sign-requires c = omega (arith, ten_le c.args.digits 15 c.requires, c.limit_of.ensures)

pub returns-clause-ok : goal.returns-clause-ok
returns-clause-ok c =
    let small : c.in_ok-magnitude.magnitude < 10 ^ 15 = omega (arith, ten_le c.args.digits 15 c.requires, c.limit_of.ensures) in
    number_said c.args.decimals c.args.text.now c.without_sign.result.now c.has_minus.result c.in_ok-magnitude.magnitude c.with_sign.result c.without_sign.ensures c.has_minus.ensures c.in_ok-magnitude.ensures.ok small c.with_sign.ensures
