use Rattle.std.proofs.Common.{◌≡◌, take, map}
use Rattle.s3_labels.specs.Inner.Images.{moved}
use Rattle.s3_labels.proofs.new_packs.moved.Given as goal

abbrev pub invariant-loop-extent : goal.invariant-loop-extent
invariant-loop-extent l = l.runs ≡ map (moved l.fn.region) (take l.extent-index l.extent-items)
