use Rattle.std.proofs.Common.{◌≡◌, ◌-◌, ◌<◌, ◌^◌}
use Rattle.s3_keyed.specs.KeyOrder.{number_of}
use Rattle.s3_keyed.specs.Inner.KeyOrder.{IsAscending}
use Rattle.s3_keyed.specs.Inner.Shape.{entry_here}
use Rattle.s3_keyed.proofs.check.keys_ascend.Given as goal

abbrev pub invariant-loop-j : goal.invariant-loop-j
invariant-loop-j l = record {
  last : number_of l.last.bytes ≡ (entry_here l.key_length l.sector (l.j - 1)).key;
  short : number_of l.last.bytes < 256 ^ l.key_length;
  ascending : IsAscending (entry_here l.key_length l.sector) l.j;
}
