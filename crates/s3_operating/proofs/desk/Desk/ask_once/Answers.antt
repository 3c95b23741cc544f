use Rattle.std.proofs.Common.{ap}
use Rattle.s3_operating.proofs.Replying.{comes_of_confirmed}
use Rattle.s3_operating.proofs.desk.Desk.ask_once.Goals as goal

pub returns-in-Reply-clause-said : goal.returns-in-Reply-clause-said
returns-in-Reply-clause-said g c =
    comes_of_confirmed c.args.question c.in-Reply.to c.in-Reply.digit (g.R.Read.remaining c.args.self.now.replies.reader) (g.R.Read.remaining c.prompt.new.self.replies.reader) (g.R.Read.remaining c.listen.new.self.replies.reader)
    (g.R.Read.remaining c.hear.new.self.replies.reader) (g.R.Read.remaining c.ask_again.new.self.replies.reader) c.in_ok-typed.field-0 c.in-Some.typed c.in_ok-said.said c.wants_again.result c.ask_again.result
    (ap (λ replies. g.R.Read.remaining replies.reader) c.in_ok-prompt.ensures.replies) c.in_ok-typed.ensures.heard c.in-Some.is c.in_ok-said.ensures.heard c.in-Reply.is
    (ap (λ replies. g.R.Read.remaining replies.reader) c.in_ok-said.ensures.replies) c.if-wants_again.true c.wants_again.ensures c.ask_again.ensures.said
