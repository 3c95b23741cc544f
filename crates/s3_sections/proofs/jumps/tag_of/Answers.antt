use Rattle.std.proofs.Common.{sym, ◌∙◌, ap}
use Rattle.s3_sections.specs.Inner.Jumps.{tag_place}
use Rattle.s3_sections.proofs.CutLemmas.{none_some}
use Rattle.s3_sections.proofs.LabelLemmas.{target_tag}
use Rattle.s3_sections.proofs.JumpLemmas.{tag_known}
use Rattle.s3_sections.proofs.jumps.tag_of.Goals as goal

pub unreachable-requires : goal.unreachable-requires
unreachable-requires c =
    let t = target_tag c.args.program.now c.args.line.now c.requires in
    none_some t.entry.1.place (sym c.in-None.is ∙ (c.tag_place.ensures ∙ (ap (tag_place c.args.program.now) c.named.ensures ∙ tag_known c.args.program.now c.args.line.now.factor2 t)))

pub returns : goal.returns
returns c = sym (ap (tag_place c.args.program.now) c.named.ensures) ∙ (sym c.tag_place.ensures ∙ c.in-Some.is)
