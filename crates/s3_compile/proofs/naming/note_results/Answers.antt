use Rattle.std.proofs.Common.{ℕ, refl}
use Rattle.std.specs.Prelude.{filter_map, List}
use Rattle.s3_lines.specs.declared.sheet.Line.{Line}
use Rattle.s3_meaning.specs.Source.{calculation_line}
use Rattle.s3_diagnose.specs.Lookups.{result_given}
use Rattle.s3_compile.specs.Inner.Noted.{result_on}
use Rattle.s3_compile.proofs.NameLemmas.{noted_next, results_step}
use Rattle.s3_compile.proofs.naming.note_results.Goals as goal

pub loop-line-preserved : goal.loop-line-preserved
loop-line-preserved c =
    noted_next (λ (at : ℕ) line. result_on line) (λ (at : ℕ) (line : Line). 0) (λ (at : ℕ) (lines : List Line). filter_map result_given (filter_map calculation_line lines)) (λ at line lines. results_step line lines)
    c.loop-line.table.entries c.note_result_on.new.table.entries 0 0 c.args.lines.now c.loop-line.line-index _ _ c.loop-line-test.true refl c.in_ok-note_result_on.ensures c.loop-line.invariant
