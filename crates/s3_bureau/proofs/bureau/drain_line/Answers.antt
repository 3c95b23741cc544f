use Rattle.s3_bureau.proofs.Acting.{drained}
use Rattle.s3_bureau.proofs.bureau.drain_line.Goals as goal

pub returns : goal.returns
returns g c = λ most some.
    rw c.once.ensures (drained most c.drain.result _ _ _ _ some c.drain.ensures.step c.drain.ensures.refused c.drain.ensures.lines c.drain.ensures.ready c.drain.ensures.spares c.drain.ensures.failures c.drain.ensures.id c.drain.ensures.areas c.drain.ensures.keeps c.drain.ensures.quiet c.drain.ensures.queues)
