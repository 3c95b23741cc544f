use Rattle.std.proofs.Common.{◌≡◌, ◌++◌, ◌*◌, ◌≤◌, length, drop}
use Rattle.s3_meaning.specs.Selection.{levels}
use Rattle.s3_match.specs.Inner.Keys.{match_values}
use Rattle.s3_match.proofs.keys.push_match_fields.Given as goal

abbrev pub invariant-loop-step : goal.invariant-loop-step
invariant-loop-step l = record {
  items : l.compared ++ match_values l.fields l.bytes (drop l.step levels) ≡ match_values l.fields l.bytes levels;
  room : length l.compared ≤ 256 * l.step;
}
