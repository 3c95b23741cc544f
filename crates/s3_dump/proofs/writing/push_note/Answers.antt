use Rattle.std.proofs.Common.{◌∙◌, sym}
use Rattle.s3_dump.proofs.NoteLemmas.{note_written}
use Rattle.s3_dump.proofs.WriterLemmas.{note_read}
use Rattle.s3_dump.proofs.writing.push_note.Goals as goal

pub returns-clause-lines : goal.returns-clause-lines
returns-clause-lines c = note_read c.args.text.now.items c.loop-byte.text.items c.push-3.new.text.items c.loop-byte.invariant.read c.in_ok-push-3.ensures

pub returns-clause-note : goal.returns-clause-note
returns-clause-note c =
    note_written c.args.text.now.items c.loop-byte.text.items c.push-3.new.text.items c.args.note.now c.loop-byte.byte-index c.loop-byte-test.false (sym c.is_empty.ensures ∙ c.if-is_empty.false) c.loop-byte.invariant.noted c.in_ok-push-3.ensures
