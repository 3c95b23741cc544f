use Rattle.std.proofs.Common.{◌≡◌, ◌-◌}
use Rattle.s3_keyed.specs.Inner.KeyOrder.{IsAscending}
use Rattle.s3_keyed.specs.Inner.Shape.{entry_here}
use Rattle.s3_keyed.proofs.check.numbers_ascend.Given as goal

abbrev pub invariant-loop-j : goal.invariant-loop-j
invariant-loop-j l = record {
  last : l.last ≡ (entry_here l.key_length l.sector (l.j - 1)).key;
  ascending : IsAscending (entry_here l.key_length l.sector) l.j;
}
