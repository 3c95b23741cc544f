use Rattle.std.proofs.Common.{refl}
use Rattle.s3_dump.proofs.WriterLemmas.{index_kept}
use Rattle.s3_dump.proofs.writing.Writer.put_index.Goals as goal

pub returns : goal.returns
returns c = λ at.
    index_kept c.args.self.now _ c.push_zeros.new.text.items c.push_note.new.text.items c.args.line.now c.args.long refl refl c.saturating_add-self.ensures c.in_ok-push_zeros.ensures.lines c.in_ok-push_note.ensures.lines
    c.in_ok-push_index.ensures at
