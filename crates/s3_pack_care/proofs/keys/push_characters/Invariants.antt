use Rattle.std.proofs.Common.{◌≡◌, ◌++◌, map, take}
use Rattle.s3_pack_care.specs.Inner.Keys.{turned}
use Rattle.s3_pack_care.proofs.keys.push_characters.Given as goal

abbrev pub invariant-loop-byte : goal.invariant-loop-byte
invariant-loop-byte l = l.key.items ≡ l.fn.key.items ++ map (turned l.fn.descending 255) (take l.byte-index l.bytes)
