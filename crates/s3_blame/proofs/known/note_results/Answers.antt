use Rattle.std.proofs.Common.{refl}
use Rattle.s3_meaning.specs.Source.{calculation_line}
use Rattle.s3_diagnose.specs.Lookups.{result_given}
use Rattle.s3_compile.specs.Inner.Noted.{results_of}
use Rattle.s3_blame.proofs.NameLemmas.{noted_next}
use Rattle.s3_blame.proofs.known.note_results.Goals as goal

pub loop-line-preserved : goal.loop-line-preserved
loop-line-preserved c =
    noted_next calculation_line result_given results_of refl (λ line. refl) c.loop-line.table.entries c.note_result.new.table.entries c.args.lines.now c.loop-line.line-index _ _ c.loop-line-test.true
    c.in_ok-note_result.ensures c.loop-line.invariant
