use Rattle.std.proofs.Common.{◌≡◌, ◌++◌, drop}
use Rattle.s3_diagnose.specs.Diagnostics.{diagnostics_from}
use Rattle.s3_diagnose.specs.Inner.Early.{IsLineWithin}
use Rattle.s3_diagnose.specs.Known.{first_standing}
use Rattle.s3_diagnose.specs.Inner.Shown.{known_shown}
use Rattle.s3_diagnose.proofs.diagnose.diagnostics.Given as goal

abbrev pub invariant-loop-place : goal.invariant-loop-place
invariant-loop-place l = record {
  found : l.found.items ++ diagnostics_from (known_shown l.known) l.at (drop l.place l.lines) ≡ diagnostics_from (known_shown l.known) first_standing l.lines;
  within : IsLineWithin l.place l.at;
}
