use Rattle.std.proofs.Common.{◌∙◌, sym}
use Rattle.s3_program.specs.Inner.Starts.{begins_totals}
use Rattle.s3_program.proofs.StartLemmas.{found, passed, none_from}
use Rattle.s3_program.proofs.starting.totals.Goals as goal

pub returns-then-begins_totals : goal.returns-then-begins_totals
returns-then-begins_totals c = found (λ line. begins_totals line.time) c.args.calculations.now _ _ _ c.loop-place-test.true c.loop-place.invariant (sym c.begins_totals.ensures ∙ c.if-begins_totals.true)

pub loop-place-preserved : goal.loop-place-preserved
loop-place-preserved c = passed (λ line. begins_totals line.time) c.args.calculations.now _ _ _ c.loop-place-test.true c.loop-place.invariant (sym c.begins_totals.ensures ∙ c.if-begins_totals.false)

pub returns : goal.returns
returns c = none_from (λ line. begins_totals line.time) c.args.calculations.now _ _ c.loop-place-test.false c.loop-place.auto.place-end c.loop-place.invariant
