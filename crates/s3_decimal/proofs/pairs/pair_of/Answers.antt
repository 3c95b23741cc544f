use Rattle.std.proofs.Common.{arith}
use Rattle.s3_decimal.proofs.PairLemmas.{tens_at, units_at}
use Rattle.s3_decimal.proofs.pairs.pair_of.Goals as goal

pub returns-clause-tens : goal.returns-clause-tens
returns-clause-tens c = tens_at c.args.number (omega arith)

pub returns-clause-units : goal.returns-clause-units
returns-clause-units c = units_at c.args.number (omega arith)
