use Rattle.std.proofs.Common.{Ok, ap, ◌∙◌}
use Rattle.s3_level.proofs.Turns.{one_step}
use Rattle.s3_level.specs.Inner.Holds.{Holds, around}
use Rattle.s3_solo.specs.declared.action.Action.TheVariants.{Turn}
use Rattle.s3_solo.specs.declared.action.Did.{Did}
use Rattle.s3_level.proofs.level.Level.turn.Goals as goal

pub returns-clause-step : goal.returns-clause-step
returns-clause-step g c =
    one_step Turn c.in_ok-turns.field-0 (Holds c.args.self.now (around c.args.pack.now.areas (g.P.Sectors.state c.args.pack.now.pool) c.args.spool.now)) (Holds c.turns.new.self (around c.turns.new.pack.areas (g.P.Sectors.state c.turns.new.pack.pool) c.turns.new.spool)) c.in_ok-turns.ensures.times c.in_ok-turns.ensures.steps

pub returns-clause-idle : goal.returns-clause-idle
returns-clause-idle g c = λ w held idles.
    ap (λ (did : Did). Ok did)
    ((one_step Turn c.in_ok-turns.field-0 (Holds c.args.self.now (around c.args.pack.now.areas (g.P.Sectors.state c.args.pack.now.pool) c.args.spool.now)) (Holds c.turns.new.self (around c.turns.new.pack.areas (g.P.Sectors.state c.turns.new.pack.pool) c.turns.new.spool)) c.in_ok-turns.ensures.times c.in_ok-turns.ensures.steps w held).0
    ∙ idles)
