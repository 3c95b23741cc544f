use Rattle.std.proofs.Common.{◌≡◌, not, take}
use Rattle.std.specs.Bool.{◌==◌}
use Rattle.std.specs.Prelude.{filter}
use Rattle.s3_cells.proofs.marks.without_marks.Given as goal

abbrev pub invariant-loop-byte : goal.invariant-loop-byte
invariant-loop-byte l = l.plain.items ≡ filter (λ byte. not (byte == l.mark)) (take l.byte-index l.text)
