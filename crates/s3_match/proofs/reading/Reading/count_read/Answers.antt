use Rattle.std.proofs.Common.{refl}
use Rattle.s3_meaning.specs.Cycle.{counted_read}
use Rattle.s3_match.proofs.ReadingLemmas.{headless, unread_headless, still_sound, still_unread, changes_there}
use Rattle.s3_match.proofs.reading.Reading.count_read.Goals as goal

pub returns-clause-sound : goal.returns-clause-sound
returns-clause-sound c = λ program sound.
    still_sound program c.args.self.now _ c.args.place c.index_mut.result.now c.count_read.new.self c.requires.unread.within c.index_mut.ensures.value refl refl refl refl refl refl c.count_read.ensures.slot
    (headless program c.count_read.new.self (unread_headless c.count_read.new.self c.count_read.ensures.unread)) sound

pub returns-clause-unread : goal.returns-clause-unread
returns-clause-unread c = still_unread c.args.self.now.files.items _ c.args.place c.count_read.new.self c.requires.unread.within refl c.count_read.ensures.unread

pub returns-clause-reading : goal.returns-clause-reading
returns-clause-reading c = λ program.
    changes_there program c.args.self.now.files.items c.args.self.now.primary_key c.args.place c.index_mut.result.now c.count_read.new.self counted_read c.requires.unread.within c.index_mut.ensures.value (c.count_read.ensures.counted program)
