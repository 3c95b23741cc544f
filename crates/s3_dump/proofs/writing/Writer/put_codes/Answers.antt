use Rattle.std.proofs.Common.{refl}
use Rattle.s3_dump.proofs.WriterLemmas.{codes_added}
use Rattle.s3_dump.proofs.writing.Writer.put_codes.Goals as goal

pub returns : goal.returns
returns c =
    codes_added c.args.self.now _ c.push_zeros.new.text.items c.push_note.new.text.items c.args.codes.now refl refl refl c.in_ok-push_zeros.ensures.lines c.in_ok-push_note.ensures.lines c.in_ok-push_codes.ensures
