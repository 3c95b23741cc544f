-- Lines were read, and none was a yes or a no. The log stays as it was.
use Rattle.std.proofs.Common.{◌≡◌, true}
use Rattle.s3_operating.specs.Inner.Answering.{ReadsAside}
use Rattle.s3_operating.proofs.desk.Desk.agrees.Given as goal

abbrev pub invariant-loop-line : goal.invariant-loop-line
invariant-loop-line g l = record {
  sources : l.self.replies.sources ≡ l.fn.self.replies.sources;
  read : ReadsAside true (g.R.Read.remaining l.fn.self.replies.reader) (g.R.Read.remaining l.self.replies.reader);
  journal : l.self.journal ≡ l.fn.self.journal;
}
