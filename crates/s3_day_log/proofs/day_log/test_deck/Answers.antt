use Rattle.std.proofs.Common.{refl, arith}
use Rattle.s3_day_log.proofs.DeckLemmas.{all_files_same, differs_here, differs_past, same_further, tested_there}
use Rattle.s3_day_log.proofs.day_log.test_deck.Goals as goal

pub returns-then-not-is_of_sum : goal.returns-then-not-is_of_sum
returns-then-not-is_of_sum c = (
  refl,
  differs_here c.args.logged.now c.args.given.now c.loop-place.place c.index-logged-place.result c.index-given-place.result
      (omega (arith, c.loop-place-test.true, c.shorter_of-common.ensures.within_one)) (omega (arith, c.loop-place-test.true, c.shorter_of-common.ensures.within_two)) c.index-logged-place.is c.index-given-place.is
      (tested_there c.index-logged-place.result _ c.index-given-place.result _ _ _ c.index-logged-place.is c.as_str.ensures.value c.is_of_sum.ensures c.if-not-is_of_sum.true) c.loop-place.invariant,
)

pub loop-place-preserved : goal.loop-place-preserved
loop-place-preserved c =
    same_further c.args.logged.now c.args.given.now c.loop-place.place c.index-logged-place.result c.index-given-place.result
    (omega (arith, c.loop-place-test.true, c.shorter_of-common.ensures.within_one)) (omega (arith, c.loop-place-test.true, c.shorter_of-common.ensures.within_two)) c.index-logged-place.is c.index-given-place.is
    (tested_there c.index-logged-place.result _ c.index-given-place.result _ _ _ c.index-logged-place.is c.as_str.ensures.value c.is_of_sum.ensures c.if-not-is_of_sum.false) c.loop-place.invariant

pub returns-then-logged-given : goal.returns-then-logged-given
returns-then-logged-given c =
    all_files_same c.args.logged.now c.args.given.now c.shorter_of-common.result c.loop-place.place c.loop-place.auto.place-end c.loop-place-test.false c.shorter_of-common.ensures.either c.if-logged-given.true c.loop-place.invariant

pub returns : goal.returns
returns c = (
  refl,
  differs_past c.args.logged.now c.args.given.now c.shorter_of-common.result c.loop-place.place c.loop-place.auto.place-end c.loop-place-test.false c.shorter_of-common.ensures.within_one c.shorter_of-common.ensures.within_two
      c.shorter_of-common.ensures.either c.if-logged-given.false c.loop-place.invariant,
)
