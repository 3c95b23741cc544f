-- The text so far, with the lines that ask for what is left, is all that is appended.
use Rattle.std.proofs.Common.{◌≡◌, ◌++◌}
use Rattle.s3_replay.specs.Inner.Written.{lines_asking}
use Rattle.s3_replay.proofs.script.push_lines.Given as goal

abbrev pub invariant-loop-left : goal.invariant-loop-left
invariant-loop-left l = l.text.items ++ lines_asking l.part.entry l.left ≡ l.fn.text.items ++ lines_asking l.part.entry l.part.times

abbrev pub decreases-loop-left : goal.decreases-loop-left
decreases-loop-left l = l.left
