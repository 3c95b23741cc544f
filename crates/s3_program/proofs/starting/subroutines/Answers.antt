use Rattle.std.proofs.Common.{◌∙◌, sym}
use Rattle.s3_program.specs.Inner.Starts.{begins_subroutines}
use Rattle.s3_program.proofs.StartLemmas.{found, passed, none_from}
use Rattle.s3_program.proofs.starting.subroutines.Goals as goal

pub returns-then-begins_subroutines : goal.returns-then-begins_subroutines
returns-then-begins_subroutines c = found (λ line. begins_subroutines line.time) c.args.calculations.now _ _ _ c.loop-place-test.true c.loop-place.invariant (sym c.begins_subroutines.ensures ∙ c.if-begins_subroutines.true)

pub loop-place-preserved : goal.loop-place-preserved
loop-place-preserved c = passed (λ line. begins_subroutines line.time) c.args.calculations.now _ _ _ c.loop-place-test.true c.loop-place.invariant (sym c.begins_subroutines.ensures ∙ c.if-begins_subroutines.false)

pub returns : goal.returns
returns c = none_from (λ line. begins_subroutines line.time) c.args.calculations.now _ _ c.loop-place-test.false c.loop-place.auto.place-end c.loop-place.invariant
