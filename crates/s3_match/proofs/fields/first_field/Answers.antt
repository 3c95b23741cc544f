use Rattle.std.proofs.Common.{◌∙◌, sym}
use Rattle.s3_match.proofs.FieldLemmas.{group_ends, field_found, field_later, field_nowhere}
use Rattle.s3_match.proofs.fields.first_field.Goals as goal

pub returns-then-begins_group : goal.returns-then-begins_group
returns-then-begins_group c = group_ends _ _ _ c.args.inputs.now _ _ _ _ c.loop-place-test.true c.loop-place.invariant c.begins_group.ensures c.if-begins_group.true

pub returns-then-is_some : goal.returns-then-is_some
returns-then-is_some c = field_found _ _ _ c.args.inputs.now _ _ _ _ _ c.loop-place-test.true c.loop-place.invariant c.begins_group.ensures c.if-begins_group.false c.field_on-field.ensures (sym c.is_some.ensures ∙ c.if-is_some.true)

pub loop-place-preserved : goal.loop-place-preserved
loop-place-preserved c = field_later _ _ _ c.args.inputs.now _ _ _ _ _ c.loop-place-test.true c.loop-place.invariant c.begins_group.ensures c.if-begins_group.false c.field_on-field.ensures (sym c.is_some.ensures ∙ c.if-is_some.false)

pub returns : goal.returns
returns c = field_nowhere _ _ _ c.args.inputs.now _ _ c.loop-place-test.false c.loop-place.invariant
