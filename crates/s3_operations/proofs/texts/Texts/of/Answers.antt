use Rattle.std.proofs.Common.{[], ap, ◌∙◌}
use Rattle.s3_operations.specs.Inner.Texts.{blank_texts}
use Rattle.s3_operations.proofs.ConstantLemmas.{factors_in_range, program_in_range, card_in_range}
use Rattle.s3_operations.proofs.SpanLemmas.{all_texts}
use Rattle.s3_operations.proofs.TextLemmas.{area_more, blank_all, blank_more, texts_two}
use Rattle.s3_operations.proofs.texts.Texts.of.Goals as goal

pub loop-field-preserved : goal.loop-field-preserved
loop-field-preserved c =
    blank_more c.args.program.now.fields.items c.deref-field-items.result.now c.loop-field.field-index c.length_of.result _ c.loop-field.spans.items c.add_blank.new.spans.items c.loop-field.bytes.items c.add_blank.new.bytes.items
    c.deref-field-items.ensures.value c.loop-field-test.true c.length_of.ensures c.loop-field.invariant c.in_ok-add_blank.ensures

pub loop-card-init : goal.loop-card-init
loop-card-init c =
    area_more c.loop-field.spans.items c.add_text.new.spans.items c.loop-field.bytes.items c.add_text.new.bytes.items (blank_texts c.args.program.now.fields.items) []
    (blank_all c.args.program.now.fields.items c.deref-field-items.result.now c.loop-field.field-index c.loop-field.spans.items c.loop-field.bytes.items c.deref-field-items.ensures.value c.loop-field-test.false c.loop-field.invariant)
    c.in_ok-add_text.ensures

pub text_of-requires : goal.text_of-requires
text_of-requires c =
    (card_in_range c.deref-card-items.result.now c.loop-card.card-index _ (ap factors_in_range c.deref-card-items.ensures.value ∙ program_in_range c.args.program.now) c.loop-card-test.true).first

pub text_of-requires-in-loop-card : goal.text_of-requires-in-loop-card
text_of-requires-in-loop-card c =
    (card_in_range c.deref-card-items.result.now c.loop-card.card-index _ (ap factors_in_range c.deref-card-items.ensures.value ∙ program_in_range c.args.program.now) c.loop-card-test.true).second

pub loop-card-preserved : goal.loop-card-preserved
loop-card-preserved c =
    texts_two (blank_texts c.args.program.now.fields.items) c.loop-card.spans.items c.add_text-in-loop-card.new.spans.items c.add_text-in-loop-card-2.new.spans.items c.loop-card.bytes.items c.add_text-in-loop-card.new.bytes.items
    c.add_text-in-loop-card-2.new.bytes.items c.text_of.result.now c.text_of-in-loop-card.result.now c.args.program.now.calculations.items c.deref-card-items.result.now c.loop-card.card-index _ c.deref-card-items.ensures.value c.loop-card-test.true
    c.loop-card.invariant c.in_ok-add_text-2.ensures c.in_ok-add_text-3.ensures c.text_of.ensures c.text_of-in-loop-card.ensures

pub returns-clause-area : goal.returns-clause-area
returns-clause-area c = all_texts c.args.program.now c.loop-card.spans.items c.loop-card.bytes.items c.deref-card-items.result.now c.loop-card.card-index c.deref-card-items.ensures.value c.loop-card-test.false c.loop-card.invariant
