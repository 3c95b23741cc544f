use Rattle.std.proofs.Common.{ℕ, refl}
use Rattle.std.specs.Prelude.{filter_map, List}
use Rattle.s3_lines.specs.declared.sheet.Line.{Line}
use Rattle.s3_meaning.specs.Source.{input_line}
use Rattle.s3_diagnose.specs.Lookups.{input_given}
use Rattle.s3_compile.specs.Inner.Noted.{field_on}
use Rattle.s3_compile.proofs.NameLemmas.{noted_next, fields_step}
use Rattle.s3_diagnose.proofs.Walks.{ranged_at}
use Rattle.s3_compile.proofs.naming.note_fields.Goals as goal

pub note_field_on-requires : goal.note_field_on-requires
note_field_on-requires c = ranged_at c.args.lines.now c.loop-line.line-index _ c.loop-line-test.true c.requires

pub loop-line-preserved : goal.loop-line-preserved
loop-line-preserved c =
    noted_next (λ (at : ℕ) line. field_on line) (λ (at : ℕ) (line : Line). 0) (λ (at : ℕ) (lines : List Line). filter_map input_given (filter_map input_line lines)) (λ at line lines. fields_step line lines)
    c.loop-line.table.entries c.note_field_on.new.table.entries 0 0 c.args.lines.now c.loop-line.line-index _ _ c.loop-line-test.true refl c.in_ok-note_field_on.ensures c.loop-line.invariant
