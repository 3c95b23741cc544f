use Rattle.s3_operating.proofs.Replying.{said_at_last}
use Rattle.s3_operating.proofs.desk.Desk.ask.Goals as goal

pub returns-in-Reply-clause-said : goal.returns-in-Reply-clause-said
returns-in-Reply-clause-said g c =
    said_at_last c.args.question c.in-Reply.to c.in-Reply.digit (g.R.Read.remaining c.args.self.now.replies.reader) (g.R.Read.remaining c.loop-line.self.replies.reader) (g.R.Read.remaining c.ask_once.new.self.replies.reader) c.in_ok-to.field-0
    c.loop-line.invariant.passed c.in_ok-to.ensures.said c.in-Reply.is
