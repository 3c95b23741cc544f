use Rattle.std.proofs.Common.{refl}
use Rattle.s3_match.specs.Inner.Heads.{ended}
use Rattle.s3_match.proofs.ReadingLemmas.{headless, still_sound, changes_there}
use Rattle.s3_match.proofs.reading.Reading.end.Goals as goal

pub returns-clause-sound : goal.returns-clause-sound
returns-clause-sound c = λ program sound.
    still_sound program c.args.self.now _ c.args.place c.index_mut.result.now c.end.new.self c.requires.within c.index_mut.ensures.value refl refl refl refl refl refl c.end.ensures.slot (headless program c.end.new.self c.end.ensures.head) sound

pub returns-clause-reading : goal.returns-clause-reading
returns-clause-reading c = λ program.
    changes_there program c.args.self.now.files.items c.args.self.now.primary_key c.args.place c.index_mut.result.now c.end.new.self ended c.requires.within c.index_mut.ensures.value (c.end.ensures.input program)
