use Rattle.std.proofs.Common.{ap, ◌∙◌}
use Rattle.s3_operations.specs.Inner.Texts.{Area, text_on}
use Rattle.s3_operations.proofs.TextLemmas.{lies_inside, within_area}
use Rattle.s3_operations.proofs.texts.Texts.part.Goals as goal

pub slice_bounds-result-count : goal.slice_bounds-result-count
slice_bounds-result-count c = c.requires.some

pub slice_bounds-result-start : goal.slice_bounds-result-start
slice_bounds-result-start c = c.requires.some

pub slice_bounds-result-end : goal.slice_bounds-result-end
slice_bounds-result-end c = within_area _ _ _ c.deref.ensures.value (lies_inside c.self.inside.spans.items c.self.inside.bytes.items c.args.self.now c.args.span c.self.view_is c.requires).below

pub returns : goal.returns
returns c = ap (λ bytes. text_on bytes c.args.span) c.deref.ensures.value ∙ ap (λ (area : Area). text_on area.bytes c.args.span) c.self.view_is
