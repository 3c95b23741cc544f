use Rattle.std.proofs.Common.{◌≡◌, []}
use Rattle.s3_amend.specs.Inner.Settings.{AreNamed}
use Rattle.s3_amend.proofs.fields.named_fields.Given as goal

abbrev pub invariant-loop-setting : goal.invariant-loop-setting
invariant-loop-setting l = record {
  named : l.mistakes.items ≡ [] → AreNamed l.fields l.label l.settings l.setting-index l.named.items;
  before : l.mistakes.items ≡ [] → l.initial.mistakes.items ≡ [];
}
