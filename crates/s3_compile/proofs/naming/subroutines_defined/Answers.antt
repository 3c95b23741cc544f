use Rattle.std.specs.Prelude.{filter_map, List}
use Rattle.s3_lines.specs.declared.sheet.Line.{Line}
use Rattle.s3_meaning.specs.Source.{calculation_line}
use Rattle.s3_program.specs.Inner.Given.{firsts}
use Rattle.s3_program.specs.Standings.{first_calculation}
use Rattle.s3_diagnose.specs.Lookups.{subroutines_from}
use Rattle.s3_compile.specs.Inner.Noted.{subroutine_on, calculation_behind}
use Rattle.s3_compile.proofs.NameLemmas.{noted_next, subroutines_step, next_within}
use Rattle.s3_compile.proofs.naming.subroutines_defined.Goals as goal

pub loop-line-preserved : goal.loop-line-preserved
loop-line-preserved c = record {
  found = noted_next subroutine_on calculation_behind (λ at (lines : List Line). subroutines_from at (filter_map calculation_line lines)) subroutines_step c.loop-line.table.entries c.note_subroutine_on.new.table.entries c.loop-line.at c.behind_line-at.result
      c.args.lines.now c.loop-line.line-index _ (firsts (subroutines_from first_calculation (filter_map calculation_line c.args.lines.now))) c.loop-line-test.true c.behind_line-at.ensures c.in_ok-note_subroutine_on.ensures c.loop-line.invariant.found;
  within = next_within c.loop-line.at c.behind_line-at.result c.args.lines.now c.loop-line.line-index _ c.behind_line-at.ensures c.loop-line.invariant.within;
}
