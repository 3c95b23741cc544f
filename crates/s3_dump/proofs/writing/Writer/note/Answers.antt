use Rattle.std.proofs.Common.{refl}
use Rattle.s3_dump.proofs.NoteLemmas.{note_added}
use Rattle.s3_dump.proofs.WriterLemmas.{note_kept}
use Rattle.s3_dump.proofs.writing.Writer.note.Goals as goal

pub returns-clause-keeps : goal.returns-clause-keeps
returns-clause-keeps c =
    note_kept c.args.self.now _ c.push_zeros.new.text.items refl refl refl c.in_ok-push_zeros.ensures.lines c.in_ok-push_note.ensures.lines

pub returns-clause-note : goal.returns-clause-note
returns-clause-note c =
    note_added c.args.self.now _ c.push_zeros.new.text.items c.args.note.now refl c.in_ok-push_zeros.ensures.none c.in_ok-push_note.ensures.note
