use Rattle.std.proofs.Common.{List, ℕ, length, ap, ◌∙◌, ◌-◌, ◌++◌, take, drop}
use Rattle.std.specs.Prelude.{replicate}
use Rattle.std.proofs.lemmas.List.{length-replicate}
use Rattle.s3_cards.specs.declared.ebcdic.TheConstants.{BLANK}
use Rattle.s3_operations.proofs.TextLemmas.{area_put, lies_inside, part_changed, range_length, within_area}
use Rattle.s3_operations.proofs.texts.Texts.clear.Goals as goal

pub slice_bounds-overlay_blanks-count : goal.slice_bounds-overlay_blanks-count
slice_bounds-overlay_blanks-count c = c.requires.some

pub slice_bounds-overlay_blanks-start : goal.slice_bounds-overlay_blanks-start
slice_bounds-overlay_blanks-start c = c.requires.some

pub slice_bounds-overlay_blanks-end : goal.slice_bounds-overlay_blanks-end
slice_bounds-overlay_blanks-end c = within_area _ _ _ c.deref_mut.ensures.value (lies_inside c.self.inside.spans.items c.self.inside.bytes.items c.args.self.now c.args.span c.self.view_is c.requires).below

pub returns : goal.returns
returns c =
    let lies = lies_inside c.self.inside.spans.items c.self.inside.bytes.items c.args.self.now c.args.span c.self.view_is c.requires in
    let bytes = c.self.inside.bytes.items in
    let span = c.args.span in
    area_put c.self.inside.spans.items c.self.inside.bytes.items _ c.args.self.now span (λ bytes. replicate (span.to - span.from) BLANK) c.self.view_is
    (part_changed c.self.inside.bytes c.deref_mut.result.now c.overlay_blanks.new.target span (λ (old : List ℕ). replicate (length old) BLANK) lies.some lies.below (λ (old : List ℕ). length-replicate (length old) BLANK) c.deref_mut.ensures.value
    c.overlay_blanks.ensures ∙ ap (λ n. take span.from bytes ++ replicate n BLANK ++ drop span.to bytes) (range_length bytes span.from span.to lies.some lies.below))
