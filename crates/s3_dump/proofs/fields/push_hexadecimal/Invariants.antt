use Rattle.std.proofs.Common.{◌≡◌, ◌++◌, ◌∷◌, take}
use Rattle.std.specs.List.{flat_map}
use Rattle.s3_dump.specs.Inner.Notes.{digits_of}
use Rattle.s3_dump.proofs.fields.push_hexadecimal.Given as goal

abbrev pub invariant-loop-byte : goal.invariant-loop-byte
invariant-loop-byte l = l.text.items ≡ l.fn.text.items ++ (88 ∷ 39 ∷ flat_map digits_of (take l.byte-index l.bytes))
