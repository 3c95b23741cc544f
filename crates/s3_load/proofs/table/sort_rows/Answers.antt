use Rattle.std.proofs.Common.{rules}
use Rattle.std.proofs.lemmas.Fn.{always_returns_same}
use Rattle.s3_load.specs.Inner.KeyOrder.{comes_before}
use Rattle.s3_load.proofs.KeyLemmas.{key_ranks}
use Rattle.s3_load.proofs.table.sort_rows.Goals as goal

pub returns-clause-sorted : goal.returns-clause-sorted
returns-clause-sorted c = c.in_ok-sort_by.ensures.sorted (comes_before c.args.key) (key_ranks c.args.key) (always_returns_same _ _ _ (λ a r q k. search rules))
