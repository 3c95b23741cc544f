use Rattle.std.proofs.Common.{◌≡◌, ◌∙◌, ◌-◌, ◌+◌, length, true, false, sym, ap, subst, arith}
use Rattle.std.specs.Prelude.{IfSome}
use Rattle.s3_match.specs.declared.heads.InputFile.{InputFile}
use Rattle.s3_match.specs.Inner.Keys.{key_in}
use Rattle.s3_match.specs.Inner.Choice.{standing_at, IsHeadAt, is_in}
use Rattle.s3_match.proofs.ChoiceLemmas.{takes_head, passes_head}
use Rattle.s3_match.proofs.choice.least_onto.Goals.{then-is_in, else-is_in}
use Rattle.s3_match.proofs.choice.least_onto.Goals as goal

pub loop-step-preserved : goal.loop-step-preserved
loop-step-preserved c = elim c.if-is_in.branch [
  | then-is_in w ↦ record {
    head = subst (λ o. IfSome o (IsHeadAt c.args.files.now)) (sym w.least-is) w.lower_of.ensures.head;
    least =
        ap (standing_at c.args.program.now c.args.files.now) w.least-is
        ∙ takes_head c.args.program.now c.args.files.now c.args.group (key_in c.args.primary_key.now) (standing_at c.args.program.now c.args.files.now c.args.behind) (standing_at c.args.program.now c.args.files.now c.loop-step.least) w.lower_of.result
        (length c.args.files.now - 1 - c.loop-step.step) (length c.args.files.now - (c.loop-step.step + 1)) (length c.args.files.now - c.loop-step.step) c.index-files-place.result c.requires.sound
        (omega (arith, c.loop-step-test.true)) (omega (arith, c.loop-step-test.true)) (omega (arith, c.loop-step-test.true))
        (subst (λ (y : InputFile). is_in c.args.program.now c.args.group (key_in c.args.primary_key.now) y ≡ true) c.index-files-place.is (sym c.is_in.ensures ∙ w.if-is_in.true))
        c.loop-step.invariant.least (λ s e. w.lower_of.ensures.lesser c.args.program.now s c.requires.sound e);
  }
  | else-is_in w ↦ record {
    head = subst (λ o. IfSome o (IsHeadAt c.args.files.now)) (sym w.least-is) c.loop-step.invariant.head;
    least =
        ap (standing_at c.args.program.now c.args.files.now) w.least-is
        ∙ passes_head c.args.program.now c.args.files.now c.args.group (key_in c.args.primary_key.now) (standing_at c.args.program.now c.args.files.now c.args.behind) (standing_at c.args.program.now c.args.files.now c.loop-step.least)
        (length c.args.files.now - 1 - c.loop-step.step) (length c.args.files.now - (c.loop-step.step + 1)) (length c.args.files.now - c.loop-step.step) c.index-files-place.result c.requires.sound
        (omega (arith, c.loop-step-test.true)) (omega (arith, c.loop-step-test.true)) (omega (arith, c.loop-step-test.true))
        (subst (λ (y : InputFile). is_in c.args.program.now c.args.group (key_in c.args.primary_key.now) y ≡ false) c.index-files-place.is (sym c.is_in.ensures ∙ w.if-is_in.false))
        c.loop-step.invariant.least;
  }
]
