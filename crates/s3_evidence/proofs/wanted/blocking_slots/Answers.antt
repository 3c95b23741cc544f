use Rattle.std.proofs.Common.{false, refl, true}
use Rattle.s3_evidence.proofs.wanted.blocking_slots.Goals as goal

pub loop-statement-preserved : goal.loop-statement-preserved
loop-statement-preserved c = c.in_ok-push_slot-2.ensures (true, refl) (c.in_ok-push_slot.ensures (false, refl) c.loop-statement.invariant)
