use Rattle.std.proofs.Common.{◌≡◌, ◌∙◌, true, false, sym, refl, subst}
use Rattle.s3_match.specs.declared.heads.InputFile.{InputFile}
use Rattle.s3_match.specs.Inner.Choice.{is_keyless}
use Rattle.s3_match.proofs.ChoiceLemmas.{keyless_here, keyless_later, keyless_nowhere}
use Rattle.s3_match.proofs.choice.first_without_key.Goals as goal

pub loop-place-init : goal.loop-place-init
loop-place-init c = λ program sound. refl

pub returns-then-is_keyless-clause-first : goal.returns-then-is_keyless-clause-first
returns-then-is_keyless-clause-first c = λ program sound.
    keyless_here program c.args.files.now c.loop-place.place c.index-files-place.result sound c.loop-place-test.true
    (subst (λ (y : InputFile). is_keyless y ≡ true) c.index-files-place.is (sym c.is_keyless.ensures ∙ c.if-is_keyless.true)) (c.loop-place.invariant program sound)

pub loop-place-preserved : goal.loop-place-preserved
loop-place-preserved c = λ program sound.
    keyless_later program c.args.files.now c.loop-place.place c.index-files-place.result sound c.loop-place-test.true
    (subst (λ (y : InputFile). is_keyless y ≡ false) c.index-files-place.is (sym c.is_keyless.ensures ∙ c.if-is_keyless.false)) (c.loop-place.invariant program sound)

pub returns-clause-first : goal.returns-clause-first
returns-clause-first c = λ program sound. keyless_nowhere program c.args.files.now c.loop-place.place c.loop-place-test.false (c.loop-place.invariant program sound)
