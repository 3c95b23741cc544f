use Rattle.std.proofs.Common.{is_some}
use Rattle.s3_operating.proofs.Logging.{logs_kept, logs_on}
use Rattle.s3_operating.proofs.desk.Desk.record_reply.Goals as goal

pub returns-clause-logs : goal.returns-clause-logs
returns-clause-logs g c =
    let before = c.args.self.now.journal in
    let between = c.log_answer.new.self.journal in
    let after = c.test_outputs.new.self.journal in
    logs_on g.F.Write.contents before.file (is_some before.failure) between.file (is_some between.failure) after.file (is_some after.failure) c.in_ok-log_answer.ensures.logs
    (logs_kept g.F.Write.contents between.file (is_some between.failure) after.file (is_some after.failure) c.test_outputs.ensures.log)
