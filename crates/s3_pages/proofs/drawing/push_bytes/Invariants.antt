-- The bytes so far.
use Rattle.std.proofs.Common.{◌≡◌, ◌++◌, take, vec_items}
use Rattle.std.specs.List.{flat_map}
use Rattle.s3_pages.specs.Inner.Drawing.{escaped}
use Rattle.s3_pages.proofs.drawing.push_bytes.Given as goal

abbrev pub invariant-loop-byte : goal.invariant-loop-byte
invariant-loop-byte l = vec_items l.text ≡ vec_items l.initial.text ++ flat_map escaped (take l.byte-index l.bytes)
