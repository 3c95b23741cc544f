use Rattle.s3_operating.proofs.Replying.{aside_then}
use Rattle.s3_operating.proofs.desk.Desk.test_outputs.Goals as goal

pub returns-clause-read : goal.returns-clause-read
returns-clause-read g c =
    aside_then c.args.self.now.replies.sources c.test_log.new.self.replies.sources (g.R.Read.remaining c.args.self.now.replies.reader) (g.R.Read.remaining c.test_log.new.self.replies.reader) (g.R.Read.remaining c.test_script.new.self.replies.reader)
    c.test_script.result c.in_ok-test_log.ensures.sources c.in_ok-test_log.ensures.read c.test_script.ensures.read
