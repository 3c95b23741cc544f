use Rattle.std.proofs.Common.{arith, ◌∙◌}
use Rattle.s3_cells.proofs.NumberLemmas.{one_more_digit}
use Rattle.s3_cells.proofs.numbers.with_digits.Goals as goal

pub loop-digit-preserved : goal.loop-digit-preserved
loop-digit-preserved c = record {
  few = omega (arith, c.with_digit-whole.ensures);
  value = λ before e. c.with_digit-whole.ensures ∙ one_more_digit before c.args.digits.now c.loop-digit.digit-index c.loop-digit.whole c.loop-digit-test.true (c.loop-digit.invariant.value before e);
}
