use Rattle.std.proofs.Common.{◌≡◌, take}
use Rattle.s3_pack_care.proofs.copying.slots_copied.Given as goal

abbrev pub invariant-loop-slot : goal.invariant-loop-slot
invariant-loop-slot l = l.copy.items ≡ take l.slot-index l.slots
