use Rattle.std.proofs.Common.{◌∙◌, ap, sym}
use Rattle.std.specs.Prelude.{not}
use Rattle.s3_program.specs.Inner.Starts.{goes_on}
use Rattle.s3_program.proofs.StartLemmas.{found, passed, none_from}
use Rattle.s3_program.proofs.starting.first_behind.Goals as goal

pub returns-then-not-goes_on : goal.returns-then-not-goes_on
returns-then-not-goes_on c = found (λ line. not (goes_on line)) c.args.inputs.now _ _ _ c.loop-place-test.true c.loop-place.invariant (ap not (sym c.goes_on.ensures ∙ c.if-not-goes_on.true))

pub loop-place-preserved : goal.loop-place-preserved
loop-place-preserved c = passed (λ line. not (goes_on line)) c.args.inputs.now _ _ _ c.loop-place-test.true c.loop-place.invariant (ap not (sym c.goes_on.ensures ∙ c.if-not-goes_on.false))

pub returns : goal.returns
returns c = none_from (λ line. not (goes_on line)) c.args.inputs.now _ _ c.loop-place-test.false (c.loop-place.auto.place-end c.requires) c.loop-place.invariant
