use Rattle.std.proofs.Common.{◌≡◌, ◌+◌, replicate}
use Rattle.s3_store.specs.Inner.State.{ChangesWithin}
use Rattle.s3_slots.specs.Stretches.{IsIn}
use Rattle.s3_labels.proofs.Blanks.{AreSet}
use Rattle.s3_labels.proofs.writing.blank_run.Given as goal

abbrev pub invariant-loop-n : goal.invariant-loop-n
invariant-loop-n g l = record {
  end : l.n-end ≡ l.fn.run.start + l.fn.run.sectors;
  set : AreSet (replicate 256 64) l.fn.run.start l.n (g.P.Sectors.state l.pool).contents;
  within : ChangesWithin (IsIn l.fn.run) (g.P.Sectors.state l.fn.pool) (g.P.Sectors.state l.pool);
  failures : (g.P.Sectors.state l.pool).failures ≡ (g.P.Sectors.state l.fn.pool).failures;
}
