use Rattle.std.proofs.Common.{◌≡◌, ◌++◌}
use Rattle.s3_punch.specs.Inner.Ebcdic.{lines_to}
use Rattle.s3_punch.proofs.ebcdic.push_lines.Given as goal

abbrev pub invariant-loop-n : goal.invariant-loop-n
invariant-loop-n l = l.text.items ≡ l.initial.text.items ++ lines_to l.bytes l.n
