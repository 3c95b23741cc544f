use Rattle.std.proofs.Common.{◌≡◌, ◌++◌, take}
use Rattle.s3_sheets.specs.Inner.Parts.{entries_of}
use Rattle.s3_sheets.proofs.parts.push_parts.Given as goal

abbrev pub invariant-loop-part : goal.invariant-loop-part
invariant-loop-part l = l.found.items ≡ l.fn.found.items ++ entries_of l.card (take l.part-index l.parts)
