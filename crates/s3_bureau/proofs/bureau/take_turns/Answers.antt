use Rattle.s3_bureau.proofs.Acting.{turned}
use Rattle.s3_bureau.proofs.bureau.take_turns.Goals as goal

pub returns : goal.returns
returns g c =
    turned _ c.turns.result _ _ _ _ c.turns.ensures.times c.turns.ensures.steps c.turns.ensures.stops c.turns.ensures.acts c.turns.ensures.ready c.turns.ensures.spares c.turns.ensures.failures c.turns.ensures.stays c.turns.ensures.says c.turns.ensures.quiet c.turns.ensures.queues
