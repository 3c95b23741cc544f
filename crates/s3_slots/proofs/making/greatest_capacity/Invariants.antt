use Rattle.std.proofs.Common.{◌-◌}
use Rattle.s3_slots.proofs.Capacities.{IsHalved}
use Rattle.s3_slots.proofs.making.greatest_capacity.Given as goal

abbrev pub invariant-loop-least : goal.invariant-loop-least
invariant-loop-least l = IsHalved l.new l.sectors l.least l.most

abbrev pub decreases-loop-least : goal.decreases-loop-least
decreases-loop-least l = l.most - l.least
