use Rattle.std.proofs.Common.{◌≡◌, ◌/◌}
use Rattle.s3_slots.proofs.Places.{IsGathered}
use Rattle.s3_slots.proofs.placement.lowest_four.Given as goal

abbrev pub invariant-loop-track : goal.invariant-loop-track
invariant-loop-track l = record {
  so : IsGathered l.region l.slots l.track-end l.track l.runs l.run;
  end : l.track-end ≡ l.region.sectors / 24;
}
