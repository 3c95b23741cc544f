use Rattle.s3_load.proofs.ColumnLemmas.{one_more_apart}
use Rattle.s3_load.proofs.OwnerLemmas.{free_beside, one_more_owner}
use Rattle.s3_load.proofs.columns.own_in_order.Goals as goal

pub loop-place-preserved : goal.loop-place-preserved
loop-place-preserved c = record {
  apart = λ none.
      one_more_apart c.args.named.now c.loop-place.place c.index-named-place.result c.loop-place-test.true c.index-named-place.is
      (c.loop-place.invariant.apart (c.in_ok-tell_overlap.ensures.before none)) (free_beside _ c.index-named-place.result _ c.loop-place.invariant.owners (c.in_ok-tell_overlap.ensures.free none));
  before = λ none. c.loop-place.invariant.before (c.in_ok-tell_overlap.ensures.before none);
  owners = one_more_owner c.args.named.now c.loop-place.place c.index-named-place.result _ _ c.loop-place-test.true c.index-named-place.is c.loop-place.invariant.owners c.own.ensures;
}
