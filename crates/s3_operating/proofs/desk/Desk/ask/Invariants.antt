-- Lines were read, and none gave a reply. The log has got lines of events.
use Rattle.std.proofs.Common.{◌≡◌, is_some}
use Rattle.s3_operating.specs.Inner.Answering.{PassesOver}
use Rattle.s3_operating.specs.Inner.Logging.{Logs}
use Rattle.s3_operating.proofs.desk.Desk.ask.Given as goal

abbrev pub invariant-loop-line : goal.invariant-loop-line
invariant-loop-line g l = record {
  sources : l.self.replies.sources ≡ l.fn.self.replies.sources;
  passed : PassesOver l.question (g.R.Read.remaining l.fn.self.replies.reader) (g.R.Read.remaining l.self.replies.reader);
  logs : Logs g.F.Write.contents l.fn.self.journal.file (is_some l.fn.self.journal.failure) l.self.journal.file (is_some l.self.journal.failure);
}
