use Rattle.std.proofs.Common.{◌≡◌, true, false, arith, refl, [], map, rules}
use Rattle.s3_cells.specs.Inner.Numbers.{are_digits, digit_value}
use Rattle.s3_cells.proofs.NumberLemmas.{magnitude_said, many_decimals, not_digits}
use Rattle.s3_cells.proofs.numbers.read_magnitude.Goals as goal

pub returns-then-not-are_digits-clause-err : goal.returns-then-not-are_digits-clause-err
returns-then-not-are_digits-clause-err c =
    let none : are_digits c.parts_of.result.0.now c.parts_of.result.1.now ≡ false = search rules in
    not_digits c.args.decimals c.args.text.now c.parts_of.result.0.now c.parts_of.result.1.now c.parts_of.ensures.whole c.parts_of.ensures.fraction none

pub returns-then-fraction-from-clause-err : goal.returns-then-fraction-from-clause-err
returns-then-fraction-from-clause-err c =
    let all : are_digits c.parts_of.result.0.now c.parts_of.result.1.now ≡ true = search rules in
    many_decimals c.args.decimals c.args.text.now c.parts_of.result.0.now c.parts_of.result.1.now c.parts_of.ensures.whole c.parts_of.ensures.fraction all (omega arith)

pub returns-clause-ok : goal.returns-clause-ok
returns-clause-ok c =
    let all : are_digits c.parts_of.result.0.now c.parts_of.result.1.now ≡ true = search rules in
    let first = c.with_digits.ensures.value [] refl in
    let second = c.with_digits-magnitude.ensures.value (map digit_value c.parts_of.result.0.now) first in
    let third = rw c.from-2.ensures at (c.with_zeros.ensures.value _ second) in
    magnitude_said c.args.decimals c.args.text.now c.parts_of.result.0.now c.parts_of.result.1.now c.with_zeros.result c.parts_of.ensures.whole c.parts_of.ensures.fraction all (omega arith) third
