use Rattle.s3_compile.proofs.NoteLemmas.{marks_found}
use Rattle.s3_compile.proofs.marking.fill_marks.Goals as goal

pub returns : goal.returns
returns c = marks_found _ c.args.lines.now c.in_ok-tables.ensures c.in_ok-tables-2.ensures c.in_ok-tables-3.ensures c.in_ok-tables-4.ensures c.in_ok-tables-5.ensures c.first_matched-tables.ensures
