use Rattle.s3_slots.proofs.Places.{IsSought}
use Rattle.s3_slots.proofs.placement.lowest_place.Given as goal

abbrev pub invariant-loop-track : goal.invariant-loop-track
invariant-loop-track l = IsSought l.region l.slots l.tracks l.count l.track
