use Rattle.std.proofs.Common.{refl}
use Rattle.s3_match.specs.Inner.Heads.{ended}
use Rattle.s3_match.specs.Inner.Reading.{input_at, reading_in}
use Rattle.s3_cycle.proofs.TurnLemmas.{goes_ended}
use Rattle.s3_cycle.proofs.HeadLemmas.{heads_still, none_within, reading_running}
use Rattle.s3_cycle.proofs.stepper.Stepper.end_file.Goals as goal

pub read_on-requires-clause-running : goal.read_on-requires-clause-running
read_on-requires-clause-running c =
    let sound = c.end.ensures.sound c.args.self.now.program c.requires.running.reading in
    reading_running c.args.self.now c.end.new.self c.requires.running sound
    (heads_still c.args.self.now.program c.args.self.now.progress.reading c.end.new.self c.args.place ended c.requires.running.reading sound c.requires.running.heads (c.end.ensures.reading c.args.self.now.program) (none_within (ended (input_at (reading_in c.args.self.now.program c.args.self.now.progress.reading).files c.args.place)) refl))

pub returns : goal.returns
returns c = goes_ended c.args.self.now c.read_on.new.self c.end.new.self c.args.place (c.end.ensures.reading c.args.self.now.program) c.read_on.ensures
