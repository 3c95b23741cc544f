-- The lines so far are written.
use Rattle.std.proofs.Common.{◌≡◌, take}
use Rattle.s3_json_lines.specs.Inner.Values.{lines_of}
use Rattle.s3_json_lines.proofs.line.lines_of.Given as goal

abbrev pub invariant-loop-value : goal.invariant-loop-value
invariant-loop-value l = l.text.items ≡ lines_of (take l.value-index l.values)
