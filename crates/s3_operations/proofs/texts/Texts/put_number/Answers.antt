use Rattle.s3_meaning.specs.Calculating.{moved_right, zoned}
use Rattle.s3_operations.specs.Inner.Texts.{text_on}
use Rattle.s3_operations.proofs.TextLemmas.{area_put, lies_inside, part_changed, right_length, within_area}
use Rattle.s3_operations.proofs.texts.Texts.put_number.Goals as goal

pub slice_bounds-overlay_number-count : goal.slice_bounds-overlay_number-count
slice_bounds-overlay_number-count c = c.requires.some

pub slice_bounds-overlay_number-start : goal.slice_bounds-overlay_number-start
slice_bounds-overlay_number-start c = c.requires.some

pub slice_bounds-overlay_number-end : goal.slice_bounds-overlay_number-end
slice_bounds-overlay_number-end c = within_area _ _ _ c.deref_mut.ensures.value (lies_inside c.self.inside.spans.items c.self.inside.bytes.items c.args.self.now c.args.span c.self.view_is c.requires).below

pub returns : goal.returns
returns c =
    let lies = lies_inside c.self.inside.spans.items c.self.inside.bytes.items c.args.self.now c.args.span c.self.view_is c.requires in
    let digits = zoned c.args.number.digits c.args.number.value in
    area_put c.self.inside.spans.items c.self.inside.bytes.items _ c.args.self.now c.args.span (λ bytes. moved_right digits (text_on bytes c.args.span)) c.self.view_is
    (part_changed c.self.inside.bytes c.deref_mut.result.now c.overlay_number.new.target c.args.span (moved_right digits) lies.some lies.below (right_length digits) c.deref_mut.ensures.value c.overlay_number.ensures)
