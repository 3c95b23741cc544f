use Rattle.s3_load.specs.Inner.Reasons.{HasSameKey, IsSameKey}
use Rattle.s3_load.proofs.KeyLemmas.{of_rows, one_more_compared}
use Rattle.s3_load.proofs.ReasonLemmas.{more_reported, reports_as}
use Rattle.s3_load.proofs.table.find_same_keys.Goals as goal

pub loop-place-preserved : goal.loop-place-preserved
loop-place-preserved c =
    let key = c.args.key in
    let rows = c.args.rows.now in
    let place = c.loop-place.place in
    let one = c.index-rows-place.result in
    let next = c.index-rows-place-in-loop-place.result in
    let faults = c.tell_same_key.new.faults in
    record {
      before = λ none. c.loop-place.invariant.before (c.in_ok-tell_same_key.ensures.before none);
      below = λ none.
          one_more_compared key rows place one next c.loop-place.auto.place c.loop-place-test.true c.index-rows-place.is c.index-rows-place-in-loop-place.is
          (c.loop-place.invariant.below (c.in_ok-tell_same_key.ensures.before none)) (c.in_ok-tell_same_key.ensures.behind none);
      reported = more_reported (IsSameKey key rows) c.args.faults.now c.loop-place.faults faults c.loop-place.invariant.reported
          (reports_as (HasSameKey key one next) (IsSameKey key rows) c.loop-place.faults faults
          (of_rows key rows place one next c.loop-place.auto.place c.loop-place-test.true c.index-rows-place.is c.index-rows-place-in-loop-place.is) c.in_ok-tell_same_key.ensures.reported);
    }
