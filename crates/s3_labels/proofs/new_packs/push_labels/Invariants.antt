use Rattle.std.proofs.Common.{◌≡◌, ◌++◌, take}
use Rattle.std.specs.List.{flat_map}
use Rattle.s3_labels.specs.Inner.Images.{master_bytes}
use Rattle.s3_labels.proofs.new_packs.push_labels.Given as goal

abbrev pub invariant-loop-slot : goal.invariant-loop-slot
invariant-loop-slot l = l.bytes.items ≡ l.fn.bytes.items ++ flat_map (master_bytes l.fn.region) (take l.slot-index l.slots)
