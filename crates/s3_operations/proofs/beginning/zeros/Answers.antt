use Rattle.s3_operations.proofs.BeginLemmas.{range_at, zeros_more, zeros_all}
use Rattle.s3_operations.proofs.beginning.zeros.Goals as goal

pub form_of-requires : goal.form_of-requires
form_of-requires c = range_at c.args.fields.now c.loop-field.field-index _ c.requires c.loop-field-test.true

pub loop-field-preserved : goal.loop-field-preserved
loop-field-preserved c =
    zeros_more c.args.fields.now c.loop-field.field-index _ c.loop-field.numbers.items _ c.loop-field.forms.items _ _ c.loop-field-test.true c.loop-field.invariant c.form_of.ensures
    c.in_ok-push.ensures.items c.in_ok-push-2.ensures.items

pub returns : goal.returns
returns c = zeros_all c.args.fields.now c.loop-field.field-index c.loop-field.numbers.items c.loop-field.forms.items c.loop-field-test.false c.loop-field.invariant
