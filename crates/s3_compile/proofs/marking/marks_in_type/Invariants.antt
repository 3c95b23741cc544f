use Rattle.std.proofs.Common.{◌≤◌, drop}
use Rattle.s3_program.specs.Matching.{same_type_mark, type_marks_from}
use Rattle.s3_program.specs.Standings.{first_input}
use Rattle.s3_compile.proofs.NoteLemmas.{Covers}
use Rattle.s3_compile.proofs.marking.marks_in_type.Given as goal

abbrev pub invariant-loop-line : goal.invariant-loop-line
invariant-loop-line l = record {
  found : Covers same_type_mark l.table (type_marks_from l.at (drop l.line-index l.lines)) (type_marks_from first_input l.lines);
  within : l.at.place ≤ l.line-index;
}
