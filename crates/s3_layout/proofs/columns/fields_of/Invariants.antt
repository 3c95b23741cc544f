use Rattle.std.proofs.Common.{◌≡◌, [], drop, map, take}
use Rattle.s3_layout.specs.Inner.Columns.{AreFieldsOf, field_name}
use Rattle.s3_layout.specs.Inner.Refusals.{entries_refusal}
use Rattle.s3_layout.proofs.columns.fields_of.Given as goal

abbrev pub invariant-loop-entry : goal.invariant-loop-entry
invariant-loop-entry l = record {
  fields : AreFieldsOf l.record_length (take l.entry-index l.entries) l.fields.items;
  named : l.names.keys ≡ map field_name l.fields.items;
  refused : entries_refusal l.record_length [] l.entries ≡ entries_refusal l.record_length l.names.keys (drop l.entry-index l.entries);
}
