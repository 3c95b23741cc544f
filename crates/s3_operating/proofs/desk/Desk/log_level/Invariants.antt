-- The script's file stays as it was, no line is read, and the log has got lines of events.
use Rattle.std.proofs.Common.{◌≡◌, is_some}
use Rattle.s3_operating.specs.Inner.Logging.{Logs}
use Rattle.s3_operating.proofs.desk.Desk.log_level.Given as goal

abbrev pub invariant-loop-event : goal.invariant-loop-event
invariant-loop-event g l = record {
  tape : l.self.tape ≡ l.fn.self.tape;
  replies : l.self.replies ≡ l.fn.self.replies;
  logs : Logs g.F.Write.contents l.fn.self.journal.file (is_some l.fn.self.journal.failure) l.self.journal.file (is_some l.self.journal.failure);
}
