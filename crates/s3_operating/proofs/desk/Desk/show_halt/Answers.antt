use Rattle.std.proofs.Common.{ap, refl}
use Rattle.s3_operating.proofs.Replying.{aside_twice}
use Rattle.s3_operating.proofs.desk.Desk.show_halt.Goals as goal

pub returns-clause-read : goal.returns-clause-read
returns-clause-read g c =
    let before = c.args.self.now.replies in
    let between = c.catch_up.new.self.replies in
    let after = c.record_halt.new.self.replies in
    let last = c.tell_halt.new.self.replies in
    aside_twice before.sources before.sources between.sources (g.R.Read.remaining before.reader) (g.R.Read.remaining before.reader) (g.R.Read.remaining between.reader) (g.R.Read.remaining after.reader) (g.R.Read.remaining last.reader)
    c.tell_halt.result refl refl c.in_ok-catch_up.ensures.read c.in_ok-catch_up.ensures.sources c.in_ok-record_halt.ensures.read (ap (λ replies. g.R.Read.remaining replies.reader) c.tell_halt.ensures.replies)
