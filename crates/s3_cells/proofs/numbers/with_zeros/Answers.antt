use Rattle.std.proofs.Common.{arith, ◌∙◌}
use Rattle.s3_cells.proofs.NumberLemmas.{one_more_zero}
use Rattle.s3_cells.proofs.numbers.with_zeros.Goals as goal

pub loop-zero-preserved : goal.loop-zero-preserved
loop-zero-preserved c = record {
  few = omega (arith, c.with_digit-whole.ensures);
  value = λ before e. c.with_digit-whole.ensures ∙ one_more_zero before c.loop-zero._zero c.loop-zero.whole (c.loop-zero.invariant.value before e);
}
