use Rattle.std.proofs.Common.{refl, sym, ◌∙◌, ap}
use Rattle.s3_meaning.specs.Selection.{InputFile, in_sequence, match_key}
use Rattle.s3_match.specs.Inner.Heads.{put as put_head}
use Rattle.s3_match.specs.Inner.Types.{kind_at}
use Rattle.s3_match.proofs.ReadingLemmas.{input_there, still_sound, unread_set, changes_if}
use Rattle.s3_match.proofs.reading.Reading.put.Goals as goal

pub returns-clause-in_sequence : goal.returns-clause-in_sequence
returns-clause-in_sequence c = λ program sound is.
    c.put.ensures.in_sequence program sound.match_levels is
    ∙ ap (λ (input : InputFile). in_sequence (match_key (kind_at program c.args.start) c.args.bytes.now) input.last_key) (sym (input_there program c.args.self.now.files.items c.args.place c.index_mut.result.now c.requires.unread.within c.index_mut.ensures.value))

pub returns-clause-sound : goal.returns-clause-sound
returns-clause-sound c = λ program sound is.
    still_sound program c.args.self.now _ c.args.place c.index_mut.result.now c.put.new.self c.requires.unread.within c.index_mut.ensures.value refl refl refl refl refl refl c.put.ensures.slot (c.put.ensures.sound program sound.match_levels is) sound

pub returns-clause-reading : goal.returns-clause-reading
returns-clause-reading c = λ program sound is.
    changes_if program c.args.self.now.files.items c.args.self.now.primary_key c.args.place c.index_mut.result.now c.put.new.self c.put.result (put_head program c.args.start c.args.bytes.now) c.requires.unread.within c.index_mut.ensures.value (c.put.ensures.input program sound.match_levels is)

pub returns-clause-unread : goal.returns-clause-unread
returns-clause-unread c = unread_set c.args.self.now.files.items c.args.place c.put.new.self c.requires.unread.within ∙ c.put.ensures.unread
