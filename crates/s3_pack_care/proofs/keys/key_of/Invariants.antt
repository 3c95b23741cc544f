use Rattle.std.proofs.Common.{◌≡◌, take}
use Rattle.std.specs.List.{flat_map}
use Rattle.s3_pack_care.specs.Inner.Keys.{ranks_of}
use Rattle.s3_pack_care.proofs.keys.key_of.Given as goal

abbrev pub invariant-loop-field : goal.invariant-loop-field
invariant-loop-field l = l.key.items ≡ flat_map (ranks_of l.fn.whole) (take l.field-index l.fields)
