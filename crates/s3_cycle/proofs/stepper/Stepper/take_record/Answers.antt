use Rattle.std.proofs.Common.{sym, ap, ◌∙◌}
use Rattle.std.specs.Prelude.{option_map}
use Rattle.s3_match.specs.Inner.Types.{kind_at}
use Rattle.s3_cycle.proofs.TurnLemmas.{with_reading, goes_counted, goes_unidentified}
use Rattle.s3_cycle.proofs.HeadLemmas.{reading_running, counted_heads}
use Rattle.s3_cycle.proofs.stepper.Stepper.take_record.Goals as goal

pub put_head-requires-clause-running : goal.put_head-requires-clause-running
put_head-requires-clause-running c =
    let sound = c.count_read.ensures.sound c.args.self.now.program c.requires.running.reading in
    reading_running c.args.self.now c.count_read.new.self c.requires.running sound
    (counted_heads c.args.self.now.program c.args.self.now.progress.reading c.count_read.new.self c.args.place c.requires.unread.within c.requires.running.reading sound c.requires.running.heads (c.count_read.ensures.reading c.args.self.now.program))

pub halt-requires-clause-running : goal.halt-requires-clause-running
halt-requires-clause-running c =
    let sound = c.count_read.ensures.sound c.args.self.now.program c.requires.running.reading in
    reading_running c.args.self.now c.count_read.new.self c.requires.running sound
    (counted_heads c.args.self.now.program c.args.self.now.progress.reading c.count_read.new.self c.args.place c.requires.unread.within c.requires.running.reading sound c.requires.running.heads (c.count_read.ensures.reading c.args.self.now.program))

pub returns-in-Some : goal.returns-in-Some
returns-in-Some c = goes_counted c.args.self.now c.put_head.new.self c.count_read.new.self c.args.place c.args.bytes.now c.requires.unread.within (c.count_read.ensures.reading c.args.self.now.program) c.put_head.ensures

pub returns-in-None : goal.returns-in-None
returns-in-None c =
    goes_counted c.args.self.now c.halt.new.self c.count_read.new.self c.args.place c.args.bytes.now c.requires.unread.within (c.count_read.ensures.reading c.args.self.now.program)
    (goes_unidentified (with_reading c.args.self.now c.count_read.new.self) c.halt.new.self c.args.place c.args.bytes.now (sym c.type_of.ensures.found ∙ ap (option_map (kind_at c.args.self.now.program)) c.in-None.is) c.halt.ensures)
