use Rattle.std.proofs.Common.{sym, ◌∙◌, ap}
use Rattle.s3_sections.specs.Inner.Jumps.{subroutine_place}
use Rattle.s3_sections.proofs.CutLemmas.{none_some}
use Rattle.s3_sections.proofs.LabelLemmas.{target_subroutine}
use Rattle.s3_sections.proofs.JumpLemmas.{subroutine_known}
use Rattle.s3_sections.proofs.jumps.subroutine_of.Goals as goal

pub unreachable-requires : goal.unreachable-requires
unreachable-requires c =
    let t = target_subroutine c.args.program.now c.args.line.now c.requires in
    none_some t.entry.1.place (sym c.in-None.is ∙ (c.subroutine_place.ensures ∙ (ap (subroutine_place c.args.program.now) c.named.ensures ∙ subroutine_known c.args.program.now c.args.line.now.factor2 t)))

pub returns : goal.returns
returns c = sym (ap (subroutine_place c.args.program.now) c.named.ensures) ∙ (sym c.subroutine_place.ensures ∙ c.in-Some.is)
