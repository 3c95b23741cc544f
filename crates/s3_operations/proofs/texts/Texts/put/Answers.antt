use Rattle.std.proofs.Common.{ap, length, take, drop, ◌++◌, ◌∙◌, sym}
use Rattle.s3_operations.proofs.TextLemmas.{area_put, lies_inside, part_put, range_length, within_area}
use Rattle.s3_operations.proofs.texts.Texts.put.Goals as goal

pub slice_bounds-lay-count : goal.slice_bounds-lay-count
slice_bounds-lay-count c = c.requires.lies.some

pub slice_bounds-lay-start : goal.slice_bounds-lay-start
slice_bounds-lay-start c = c.requires.lies.some

pub slice_bounds-lay-end : goal.slice_bounds-lay-end
slice_bounds-lay-end c = within_area _ _ _ c.deref_mut.ensures.value (lies_inside c.self.inside.spans.items c.self.inside.bytes.items c.args.self.now c.args.span c.self.view_is c.requires.lies).below

pub lay-requires : goal.lay-requires
lay-requires c =
    let lies = lies_inside c.self.inside.spans.items c.self.inside.bytes.items c.args.self.now c.args.span c.self.view_is c.requires.lies in
    range_length c.deref_mut.result.now c.args.span.from c.args.span.to lies.some (within_area _ _ _ c.deref_mut.ensures.value lies.below) ∙ sym c.requires.same

pub returns : goal.returns
returns c =
    let lies = lies_inside c.self.inside.spans.items c.self.inside.bytes.items c.args.self.now c.args.span c.self.view_is c.requires.lies in
    let bytes = c.self.inside.bytes.items in
    let span = c.args.span in
    area_put c.self.inside.spans.items bytes _ c.args.self.now span (λ bytes. c.args.text.now) c.self.view_is
    (part_put c.self.inside.bytes c.deref_mut.result.now c.lay.new.target span lies.some lies.below c.deref_mut.ensures.value (ap length c.lay.ensures ∙ c.requires.same)
    ∙ ap (λ part. take span.from bytes ++ part ++ drop span.to bytes) c.lay.ensures)
