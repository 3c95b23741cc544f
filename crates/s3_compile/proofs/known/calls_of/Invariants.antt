use Rattle.std.proofs.Common.{◌≡◌, ◌++◌, drop}
use Rattle.s3_program.specs.Jumps.{calls_from}
use Rattle.s3_program.specs.Standings.{first_calculation}
use Rattle.s3_diagnose.specs.Inner.Early.{IsWithin}
use Rattle.s3_compile.proofs.known.calls_of.Given as goal

abbrev pub invariant-loop-line : goal.invariant-loop-line
invariant-loop-line l = record {
  found : l.calls.items ++ calls_from l.at (drop l.line-index l.lines) ≡ calls_from first_calculation l.lines;
  within : IsWithin l.line-index l.at;
}
