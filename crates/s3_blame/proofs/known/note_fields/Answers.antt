use Rattle.std.proofs.Common.{refl}
use Rattle.s3_meaning.specs.Source.{input_line}
use Rattle.s3_diagnose.specs.Lookups.{input_given}
use Rattle.s3_compile.specs.Inner.Noted.{fields_of}
use Rattle.s3_blame.proofs.NameLemmas.{noted_next, read_at}
use Rattle.s3_blame.proofs.known.note_fields.Goals as goal

pub loop-line-preserved : goal.loop-line-preserved
loop-line-preserved c = λ read.
    noted_next input_line input_given fields_of refl (λ line. refl) c.loop-line.table.entries c.note_field.new.table.entries c.args.lines.now c.loop-line.line-index _ _ c.loop-line-test.true
    (c.in_ok-note_field.ensures (read_at c.args.lines.now c.loop-line.line-index _ c.loop-line-test.true read)) (c.loop-line.invariant read)
