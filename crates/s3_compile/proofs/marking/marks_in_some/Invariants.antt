use Rattle.std.proofs.Common.{◌≤◌, drop}
use Rattle.s3_program.specs.Matching.{same_group_mark, some_marks_from, same_type}
use Rattle.s3_program.specs.Standings.{first_input}
use Rattle.indexmap.specs.IndexSet.{contains}
use Rattle.s3_compile.proofs.NoteLemmas.{Covers}
use Rattle.s3_compile.proofs.marking.marks_in_some.Given as goal

abbrev pub invariant-loop-line : goal.invariant-loop-line
invariant-loop-line l = record {
  found : Covers same_group_mark l.table ((some_marks_from (contains same_type l.types)) l.at (drop l.line-index l.lines)) ((some_marks_from (contains same_type l.types)) first_input l.lines);
  within : l.at.place ≤ l.line-index;
}
