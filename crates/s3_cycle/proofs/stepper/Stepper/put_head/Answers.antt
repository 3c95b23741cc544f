use Rattle.std.proofs.Common.{sym, ◌∙◌}
use Rattle.s3_cycle.proofs.TurnLemmas.{goes_put, goes_unsequenced, where_put, where_not_put}
use Rattle.s3_cycle.proofs.HeadLemmas.{reading_running, put_heads, same_heads}
use Rattle.s3_cycle.proofs.stepper.Stepper.put_head.Goals as goal

pub read_behind-requires-clause-running : goal.read_behind-requires-clause-running
read_behind-requires-clause-running c =
    reading_running c.args.self.now c.put.new.self c.requires.running (c.put.ensures.sound c.args.self.now.program c.requires.running.reading c.requires.starts)
    (put_heads c.args.self.now.program c.args.self.now.progress.reading c.put.new.self c.args.place c.args.start c.args.bytes.now c.requires.unread.within c.requires.running.reading (c.put.ensures.sound c.args.self.now.program c.requires.running.reading c.requires.starts) c.requires.running.heads c.requires.typed c.requires.fits.long
    (where_put c.put.result _ _ _ c.if-put.true (c.put.ensures.reading c.args.self.now.program c.requires.running.reading c.requires.starts)))

pub halt-requires-clause-running : goal.halt-requires-clause-running
halt-requires-clause-running c =
    reading_running c.args.self.now c.put.new.self c.requires.running (c.put.ensures.sound c.args.self.now.program c.requires.running.reading c.requires.starts)
    (same_heads c.args.self.now.program c.args.self.now.progress.reading c.put.new.self c.requires.running.reading (c.put.ensures.sound c.args.self.now.program c.requires.running.reading c.requires.starts) c.requires.running.heads (where_not_put c.put.result _ _ _ c.if-put.false (c.put.ensures.reading c.args.self.now.program c.requires.running.reading c.requires.starts)))

pub returns-then-put : goal.returns-then-put
returns-then-put c =
    goes_put c.args.self.now c.read_behind.new.self c.put.new.self c.args.place c.args.start c.args.bytes.now c.requires.typed (sym (c.put.ensures.in_sequence c.args.self.now.program c.requires.running.reading c.requires.starts) ∙ c.if-put.true) (where_put c.put.result _ _ _ c.if-put.true (c.put.ensures.reading c.args.self.now.program c.requires.running.reading c.requires.starts)) c.read_behind.ensures

pub returns-else-put : goal.returns-else-put
returns-else-put c =
    goes_unsequenced c.args.self.now c.halt.new.self c.put.new.self c.args.place c.args.start c.args.bytes.now c.requires.typed (sym (c.put.ensures.in_sequence c.args.self.now.program c.requires.running.reading c.requires.starts) ∙ c.if-put.false) (where_not_put c.put.result _ _ _ c.if-put.false (c.put.ensures.reading c.args.self.now.program c.requires.running.reading c.requires.starts)) c.halt.ensures
