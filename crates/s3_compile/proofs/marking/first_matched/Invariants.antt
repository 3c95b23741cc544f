use Rattle.std.proofs.Common.{◌≡◌, ◌≤◌, drop}
use Rattle.s3_program.specs.Matching.{first_matched, types_from}
use Rattle.s3_program.specs.Standings.{first_input}
use Rattle.s3_diagnose.specs.Inner.Shown.{marks_shown}
use Rattle.s3_compile.proofs.marking.first_matched.Given as goal

abbrev pub invariant-loop-line : goal.invariant-loop-line
invariant-loop-line l = record {
  found : first_matched (marks_shown l.tables).in_all (marks_shown l.tables).in_type (types_from l.at (drop l.line-index l.lines))
      ≡ first_matched (marks_shown l.tables).in_all (marks_shown l.tables).in_type (types_from first_input l.lines);
  within : l.at.place ≤ l.line-index;
}
