use Rattle.s3_bureau.proofs.Running.{unwritten_over}
use Rattle.s3_bureau.proofs.runs.unwritten.Goals as goal

pub returns-in-Ok-halts : goal.returns-in-Ok-halts
returns-in-Ok-halts c =
    unwritten_over c.args.store c.args.deck1.now c.args.deck2.now c.in_ok-cards1.cards1 c.in_ok-cards2.cards2 c.in_ok-cards1.refusal1 c.in_ok-cards2.refusal2 _ c.in-Ok.bureau
    (record { bureau = c.served-halts.new.bureau; halts1 = c.in-Ok-halts.halts1; halts2 = c.in-Ok-halts.halts2 })
    c.in-Ok.ensures.header c.in-Ok.ensures.contents c.in-Ok.ensures.one c.in-Ok.ensures.two c.in-Ok.ensures.rest c.in_ok-cards1.ensures c.in_ok-cards2.ensures
    c.in-Ok.ensures.said c.in-Ok-halts.ensures.texts c.in-Ok-halts.ensures.slots c.in-Ok-halts.ensures.files c.in-Ok-halts.ensures.flushed c.served-halts.ensures.leaves
