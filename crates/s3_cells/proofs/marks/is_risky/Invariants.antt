use Rattle.std.proofs.Common.{◌≡◌, drop}
use Rattle.s3_cells.specs.Inner.Marks.{is_risky}
use Rattle.s3_cells.proofs.marks.is_risky.Given as goal

abbrev pub invariant-loop-byte : goal.invariant-loop-byte
invariant-loop-byte l = is_risky l.text ≡ is_risky (drop l.byte-index l.text)
