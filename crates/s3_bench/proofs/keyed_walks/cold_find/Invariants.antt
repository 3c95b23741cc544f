use Rattle.s3_files.specs.Inner.Files.{AreStored}
use Rattle.s3_keyed.specs.Inner.Keyed.{shown, HasKeyOrder}
use Rattle.s3_bench.proofs.keyed_walks.cold_find.Given as goal

abbrev pub invariant-loop-call : goal.invariant-loop-call
invariant-loop-call l = record {
  stored : AreStored (shown l.file).sectors l.store.inner;
  ordered : HasKeyOrder (shown l.file) l.store.inner;
}
