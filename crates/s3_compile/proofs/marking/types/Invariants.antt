use Rattle.std.proofs.Common.{◌≤◌, drop}
use Rattle.s3_program.specs.Matching.{same_type, types_from}
use Rattle.s3_program.specs.Standings.{first_input}
use Rattle.s3_compile.proofs.NoteLemmas.{CoversKeys}
use Rattle.s3_compile.proofs.marking.types.Given as goal

abbrev pub invariant-loop-line : goal.invariant-loop-line
invariant-loop-line l = record {
  found : CoversKeys same_type l.types (types_from l.at (drop l.line-index l.lines)) (types_from first_input l.lines);
  within : l.at.place ≤ l.line-index;
}
