use Rattle.s3_load.proofs.ColumnLemmas.{one_more_apart}
use Rattle.s3_amend.proofs.fields.note_overlaps.Goals as goal

pub loop-place-preserved : goal.loop-place-preserved
loop-place-preserved c = record {
  apart = λ none.
      one_more_apart c.args.named.now c.loop-place.place c.index-named-place.result c.loop-place-test.true c.index-named-place.is (c.loop-place.invariant.apart (c.in_ok-note_overlap.ensures.before none))
      (c.in_ok-note_overlap.ensures.apart none);
  before = λ none. c.loop-place.invariant.before (c.in_ok-note_overlap.ensures.before none);
}
