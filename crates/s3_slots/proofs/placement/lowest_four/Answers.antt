use Rattle.std.proofs.Common.{sym, ap, ◌∙◌, refl}
use Rattle.s3_slots.specs.Slots.{is_clear}
use Rattle.s3_slots.proofs.Places.{gathered_start, gathered_on, gathered_ended, gathered_full}
use Rattle.s3_slots.proofs.placement.lowest_four.Goals as goal
use Rattle.s3_slots.proofs.placement.lowest_four.Goals.{then-is_clear, else-is_clear}

pub loop-track-init : goal.loop-track-init
loop-track-init c = record {
  so = rw (c.new-runs.ensures, c.from-track-end.ensures) (gathered_start c.args.region c.args.slots.now _ refl);
  end = rw c.from-track-end.ensures refl;
}

pub returns-then-is_full-clause-value : goal.returns-then-is_full-clause-value
returns-then-is_full-clause-value c = gathered_full _ _ _ _ _ _ c.if-is_full.ensures c.loop-track.invariant.so

pub loop-track-preserved : goal.loop-track-preserved
loop-track-preserved c = record {
  so = elim c.if-is_clear.branch [
    | then-is_clear w ↦ rw (w.runs-is, w.run-is) (gathered_on _ _ _ _ _ _ c.loop-track-test.true (ap (is_clear c.args.slots.now) (sym c.tracks_at-place.ensures) ∙ sym c.is_clear.ensures ∙ w.if-is_clear.true) c.loop-track.invariant.so)
    | else-is_clear w ↦ rw (w.runs-is, w.run-is, w.end_run.ensures, c.tracks_at-place.ensures) (gathered_ended _ _ _ _ _ _ c.loop-track-test.true (ap (is_clear c.args.slots.now) (sym c.tracks_at-place.ensures) ∙ sym c.is_clear.ensures ∙ w.if-is_clear.false) c.loop-track.invariant.so)
  ];
  end = c.loop-track.invariant.end;
}

pub returns-then-is_full-2-clause-value : goal.returns-then-is_full-2-clause-value
returns-then-is_full-2-clause-value c = gathered_full _ _ _ _ _ _ c.if-is_full-2.ensures c.loop-track.invariant.so
