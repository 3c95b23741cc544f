use Rattle.std.proofs.Common.{ap, ◌∙◌, sym}
use Rattle.std.specs.Prelude.{Some, slice_get}
use Rattle.s3_operations.specs.Inner.Texts.{Area, text_on, texts_of}
use Rattle.s3_operations.proofs.TextLemmas.{slot_inside, span_at, within_area}
use Rattle.s3_operations.proofs.texts.Texts.text.Goals as goal

pub slice_bounds-result-count : goal.slice_bounds-result-count
slice_bounds-result-count c =
    let inside = slot_inside c.self.inside.spans.items c.self.inside.bytes.items c.args.self.now c.args.slot c.self.view_is c.requires in
    (span_at c.self.inside.spans.items c.self.inside.bytes.items c.args.slot c.index-span.result.now c.self.invariant inside c.index-span.ensures).some

pub slice_bounds-result-start : goal.slice_bounds-result-start
slice_bounds-result-start c =
    let inside = slot_inside c.self.inside.spans.items c.self.inside.bytes.items c.args.self.now c.args.slot c.self.view_is c.requires in
    (span_at c.self.inside.spans.items c.self.inside.bytes.items c.args.slot c.index-span.result.now c.self.invariant inside c.index-span.ensures).some

pub slice_bounds-result-end : goal.slice_bounds-result-end
slice_bounds-result-end c =
    let inside = slot_inside c.self.inside.spans.items c.self.inside.bytes.items c.args.self.now c.args.slot c.self.view_is c.requires in
    within_area _ _ _ c.deref.ensures.value (span_at c.self.inside.spans.items c.self.inside.bytes.items c.args.slot c.index-span.result.now c.self.invariant inside c.index-span.ensures).below

pub returns : goal.returns
returns c =
    let inside = slot_inside c.self.inside.spans.items c.self.inside.bytes.items c.args.self.now c.args.slot c.self.view_is c.requires in
    ap (λ (area : Area). slice_get (texts_of area) c.args.slot) (sym c.self.view_is)
    ∙ (span_at c.self.inside.spans.items c.self.inside.bytes.items c.args.slot c.index-span.result.now c.self.invariant inside c.index-span.ensures).text
    ∙ ap (λ bytes. Some (text_on bytes c.index-span.result.now)) (sym c.deref.ensures.value)
