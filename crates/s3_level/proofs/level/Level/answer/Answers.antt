use Rattle.std.proofs.Common.{rules}
use Rattle.s3_level.proofs.Replies.{reply_taken, taken_so}
use Rattle.s3_level.proofs.Leaving.{ready_kept}
use Rattle.s3_level.proofs.level.Level.answer.Goals as goal

pub returns-clause-step : goal.returns-clause-step
returns-clause-step g c = λ blocks are.
    reply_taken c.reply.result c.args.digit c.args.self.now c.reply.new.self c.go_on.new.self c.args.pack.now.areas c.go_on.new.pack.areas (g.P.Sectors.state c.args.pack.now.pool) (g.P.Sectors.state c.go_on.new.pack.pool) blocks
    c.reply.ensures.answer (search rules) c.requires.ready.files.pack are (search rules) (search rules) (λ s. taken_so c.reply.result (search rules) (c.reply.ensures.given s)) c.in_ok-go_on.ensures.world

pub go_on-requires : goal.go_on-requires
go_on-requires g c = record { ready = ready_kept c.reply.ensures.keeps c.requires.ready }
