use Rattle.s3_amend.proofs.SettingLemmas.{one_more_at}
use Rattle.s3_amend.proofs.fields.named_fields.Goals as goal

pub loop-setting-preserved : goal.loop-setting-preserved
loop-setting-preserved c = record {
  named = λ none.
      let still = c.in_ok-test_value.ensures.before none in
      one_more_at c.args.fields.now c.args.label.now c.args.settings.now c.loop-setting.setting-index _ c.loop-setting.named.items c.name_field.new.named.items c.loop-setting-test.true
      (c.loop-setting.invariant.named (c.in_ok-name_field.ensures.before still)) (c.in_ok-name_field.ensures.named still);
  before = λ none. c.loop-setting.invariant.before (c.in_ok-name_field.ensures.before (c.in_ok-test_value.ensures.before none));
}
