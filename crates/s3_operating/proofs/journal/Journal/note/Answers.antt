use Rattle.std.proofs.Common.{is_some, rules}
use Rattle.std.specs.String.{string_bytes}
use Rattle.s3_day_log.specs.Inner.Events.{said_of}
use Rattle.s3_operating.proofs.Logging.{last_failed, last_no_file, last_written, logs_last}
use Rattle.s3_operating.proofs.journal.Journal.note.Goals as goal
use Rattle.s3_operating.proofs.journal.Journal.note.Goals.{then-is_none-via-then-is_none, then-is_none-via-else-is_none+then-is_some}

pub returns-then-is_none-clause-last : goal.returns-then-is_none-clause-last
returns-then-is_none-clause-last g c =
    elim c.then-is_none.branch [
      | then-is_none-via-then-is_none w ↦ last_no_file g.F.Write.contents (said_of c.args.event) c.args.self.now.file (is_some c.args.self.now.failure) (search rules)
      | then-is_none-via-else-is_none+then-is_some w ↦ last_failed g.F.Write.contents (said_of c.args.event) c.args.self.now.file c.args.self.now.file (is_some c.args.self.now.failure) c.args.self.now.failure (search rules)
    ]

pub returns-clause-last : goal.returns-clause-last
returns-clause-last g c =
    last_written g.F.Write.contents c.seconds.result (said_of c.args.event) (string_bytes c.in_ok-line.line) c.as_bytes.result.now c.args.self.now.file c.put_into-self.new.file (is_some c.args.self.now.failure) c.put_into-self.result
    c.in_ok-line.ensures c.as_bytes.ensures.value c.put_into-self.ensures.written c.put_into-self.ensures.kept (cc)

pub returns-clause-logs : goal.returns-clause-logs
returns-clause-logs g c = logs_last g.F.Write.contents (said_of c.args.event) c.args.self.now.file (is_some c.args.self.now.failure) c.put_into-self.new.file (is_some c.put_into-self.result) (returns-clause-last g c)
