use Rattle.std.proofs.Common.{◌≡◌, []}
use Rattle.std.specs.List.{All, Contains}
use Rattle.csv.specs.Records.{fields_of}
use Rattle.s3_load.specs.Inner.Columns.{AreNamed}
use Rattle.s3_load.proofs.columns.named_fields.Given as goal

abbrev pub invariant-loop-column : goal.invariant-loop-column
invariant-loop-column l = record {
  named : l.faults.items ≡ [] → AreNamed l.fields (fields_of l.heading) l.column l.named.items;
  among : All (Contains l.fields) l.named.items;
  before : l.faults.items ≡ [] → l.initial.faults.items ≡ [];
}
