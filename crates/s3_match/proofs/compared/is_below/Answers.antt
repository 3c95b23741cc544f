use Rattle.s3_match.proofs.ComparedLemmas.{longer_left, behind_left}
use Rattle.s3_match.proofs.compared.is_below.Goals as goal

pub returns-then-place-right : goal.returns-then-place-right
returns-then-place-right c = longer_left c.args.left.now c.args.right.now _ 0 c.loop-place-test.true c.if-place-right.true c.loop-place.invariant

pub returns : goal.returns
returns c = behind_left c.args.left.now c.args.right.now _ c.loop-place-test.false c.loop-place.auto.place-end c.loop-place.invariant
