use Rattle.std.proofs.Common.{refl}
use Rattle.s3_match.proofs.ReadingLemmas.{headless, unread_headless, still_sound, still_unread, bytes_stay}
use Rattle.s3_match.proofs.TakeLemmas.{head_taken}
use Rattle.s3_match.proofs.UnreadLemmas.{some_left}
use Rattle.s3_match.proofs.reading.Reading.take.Goals as goal

pub returns-clause-sound : goal.returns-clause-sound
returns-clause-sound c =
    still_sound c.args.program.now c.args.self.now _ c.args.place c.index_mut.result.now c.vacate.new.self c.requires.head.within c.index_mut.ensures.value refl refl refl refl refl refl c.vacate.ensures.slot
    (headless c.args.program.now c.vacate.new.self (unread_headless c.vacate.new.self c.vacate.ensures.unread)) c.requires.sound

pub returns-clause-taken : goal.returns-clause-taken
returns-clause-taken c = λ selected own.
    head_taken c.args.program.now c.args.self.now c.keep_primary.new.primary_key c.args.place c.index_mut.result.now c.index.result.now c.vacate.new.self selected c.requires.sound c.requires.head.within
    c.index_mut.ensures.value c.index.ensures own (c.vacate.ensures.input c.args.program.now) c.keep_primary.ensures

pub returns-clause-unread : goal.returns-clause-unread
returns-clause-unread c = still_unread c.args.self.now.files.items _ c.args.place c.vacate.new.self c.requires.head.within refl c.vacate.ensures.unread

pub returns-clause-some_unread : goal.returns-clause-some_unread
returns-clause-some_unread c =
    some_left c.args.program.now _ c.args.place (still_unread c.args.self.now.files.items _ c.args.place c.vacate.new.self c.requires.head.within refl c.vacate.ensures.unread).unread

pub returns-clause-bytes : goal.returns-clause-bytes
returns-clause-bytes c = bytes_stay c.args.self.now.files.items c.args.place c.index_mut.result.now c.vacate.new.self c.requires.head.within c.index_mut.ensures.value c.vacate.ensures.bytes
