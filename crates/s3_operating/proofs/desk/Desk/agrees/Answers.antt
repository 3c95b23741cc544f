use Rattle.std.proofs.Common.{ap, ◌∙◌}
use Rattle.s3_operating.proofs.Replying.{aside_heard_next, aside_heard_told}
use Rattle.s3_operating.proofs.desk.Desk.agrees.Goals as goal

pub returns-in-Some-Yes-clause-read : goal.returns-in-Some-Yes-clause-read
returns-in-Some-Yes-clause-read g c =
    aside_heard_next (g.R.Read.remaining c.args.self.now.replies.reader) (g.R.Read.remaining c.loop-line.self.replies.reader) (g.R.Read.remaining c.tell.new.self.replies.reader) (g.R.Read.remaining c.listen.new.self.replies.reader)
    c.in_ok-listen.field-0 c.in-Some-Yes.field-0 c.loop-line.invariant.read (ap (λ replies. g.R.Read.remaining replies.reader) c.tell.ensures.replies) c.in_ok-listen.ensures.heard c.in-Some-Yes.is

pub loop-line-preserved : goal.loop-line-preserved
loop-line-preserved g c = record {
  sources = ap (λ replies. replies.sources) c.tell_neither.ensures.replies ∙ (c.in_ok-listen.ensures.sources ∙ (ap (λ replies. replies.sources) c.tell.ensures.replies ∙ c.loop-line.invariant.sources));
  read =
      aside_heard_told (g.R.Read.remaining c.args.self.now.replies.reader) (g.R.Read.remaining c.loop-line.self.replies.reader) (g.R.Read.remaining c.tell.new.self.replies.reader) (g.R.Read.remaining c.listen.new.self.replies.reader)
      (g.R.Read.remaining c.tell_neither.new.self.replies.reader) c.in_ok-listen.field-0 c.in-Some.typed c.loop-line.invariant.read (ap (λ replies. g.R.Read.remaining replies.reader) c.tell.ensures.replies) c.in_ok-listen.ensures.heard c.in-Some.is
      (ap (λ replies. g.R.Read.remaining replies.reader) c.tell_neither.ensures.replies);
  journal = c.tell_neither.ensures.journal ∙ (c.in_ok-listen.ensures.journal ∙ (c.tell.ensures.journal ∙ c.loop-line.invariant.journal));
}
