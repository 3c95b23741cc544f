use Rattle.std.proofs.Common.{◌≡◌, ◌<◌, ◌⊎◌, true}
use Rattle.csv.specs.Records.{fields_of}
use Rattle.s3_load.specs.Inner.Reasons.{HasTried, IsColumnFault, Reports}
use Rattle.s3_load.specs.Inner.Records.{HasTaken}
use Rattle.s3_load.proofs.rows.take_cells.Given as goal

abbrev pub invariant-loop-column : goal.invariant-loop-column
invariant-loop-column l = record {
  taken : l.faults.count ≡ 0 → HasTaken l.fields (fields_of l.cells) l.initial.bytes l.column l.bytes;
  key : (l.has_key ≡ true) ⊎ (0 < l.faults.count);
  before : l.faults.count ≡ 0 → l.initial.faults.count ≡ 0;
  tried : HasTried l.fields (fields_of l.cells) l.initial.bytes l.column l.bytes;
  reported : Reports (IsColumnFault l.fields (fields_of l.cells)) l.initial.faults l.faults;
}
