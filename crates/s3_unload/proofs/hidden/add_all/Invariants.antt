use Rattle.std.proofs.Common.{◌≡◌}
use Rattle.s3_unload.proofs.hidden.add_all.Given as goal

abbrev pub invariant-loop-n : goal.invariant-loop-n
invariant-loop-n l = record {
  same : l.store ≡ l.initial.store;
}
