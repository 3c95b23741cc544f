use Rattle.std.proofs.Common.{arith}
use Rattle.s3_edit.proofs.ShortLemmas.{three_digits}
use Rattle.s3_edit.proofs.short_amount.put_three.Goals as goal

pub returns-clause-digits : goal.returns-clause-digits
returns-clause-digits c = λ place h.
    three_digits c.args.number c.args.end place c.hundreds_of-hundreds.result _ _ c.args.text.now (omega arith) (omega arith) c.hundreds_of-hundreds.ensures c.pair_of-pair.ensures.tens c.pair_of-pair.ensures.units h
