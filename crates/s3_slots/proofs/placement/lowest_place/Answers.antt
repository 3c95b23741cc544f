use Rattle.std.proofs.Common.{sym, ap, ◌∙◌, arith}
use Rattle.s3_slots.specs.Slots.{is_clear}
use Rattle.s3_slots.proofs.Places.{sought_start, sought_on}
use Rattle.s3_slots.proofs.placement.lowest_place.Goals as goal

pub loop-track-init : goal.loop-track-init
loop-track-init c = sought_start c.args.region c.args.slots.now c.args.tracks _ (omega (arith, c.saturating_sub-count.ensures, c.from.ensures))

pub loop-track-preserved : goal.loop-track-preserved
loop-track-preserved c =
    sought_on _ _ _ _ _ c.loop-track-test.true (ap (is_clear c.args.slots.now) (sym c.tracks_at-place.ensures) ∙ sym c.is_clear.ensures ∙ c.if-is_clear.false) c.loop-track.invariant
