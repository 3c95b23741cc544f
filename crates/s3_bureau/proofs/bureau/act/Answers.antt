use Rattle.s3_bureau.proofs.bureau.act.Goals as goal

pub returns-in-Turn : goal.returns-in-Turn
returns-in-Turn g c = rw c.in-Turn.is c.take_turns.ensures

pub returns-in-Reply : goal.returns-in-Reply
returns-in-Reply g c = rw c.in-Reply.is (c.give_reply.ensures _ c.args.spool.now c.args.most.ok c.requires.blocks)

pub returns-in-Drain : goal.returns-in-Drain
returns-in-Drain g c = rw c.in-Drain.is (c.drain_line.ensures _ c.args.most.ok)
