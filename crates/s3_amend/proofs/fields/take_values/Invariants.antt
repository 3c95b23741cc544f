use Rattle.std.proofs.Common.{◌≡◌, []}
use Rattle.s3_load.specs.Inner.Records.{HasTaken}
use Rattle.s3_amend.specs.Inner.Settings.{values_of}
use Rattle.s3_amend.proofs.fields.take_values.Given as goal

abbrev pub invariant-loop-place : goal.invariant-loop-place
invariant-loop-place l = record {
  taken : l.mistakes.items ≡ [] → HasTaken l.named (values_of l.settings) l.initial.bytes l.place l.bytes;
  before : l.mistakes.items ≡ [] → l.initial.mistakes.items ≡ [];
}
