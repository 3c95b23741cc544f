use Rattle.std.proofs.Common.{◌≡◌, length}
use Rattle.s3_match.proofs.ToldLemmas.{Each}
use Rattle.s3_match.proofs.reading.only_types.Given as goal

abbrev pub invariant-loop-file : goal.invariant-loop-file
invariant-loop-file l = record {
  many : length l.types.items ≡ l.file;
  each : Each l.program l.types.items;
}
