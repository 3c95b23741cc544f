use Rattle.std.proofs.Common.{arith, get_or}
use Rattle.s3_sheets.proofs.NumberLemmas.{fits, number_next, digit_at, digit_small}
use Rattle.s3_sheets.proofs.columns.number_onto.Goals as goal

pub overflow_mul-number : goal.overflow_mul-number
overflow_mul-number c = omega (arith, fits _ _ _ _ c.loop-code.invariant c.loop-code-test.true c.requires.fits)

pub overflow_add-number : goal.overflow_add-number
overflow_add-number c =
    omega (
      arith,
      fits _ _ _ _ c.loop-code.invariant c.loop-code-test.true c.requires.fits,
      digit_small (get_or c.args.digits.now c.loop-code.code-index 0) (digit_at c.args.digits.now c.loop-code.code-index c.requires.all c.loop-code-test.true),
      c.from.ensures,
    )

pub loop-code-preserved : goal.loop-code-preserved
loop-code-preserved c = number_next _ _ _ _ _ c.loop-code.invariant c.loop-code-test.true c.requires.all c.from.ensures
