use Rattle.std.proofs.Common.{◌≡◌, ◌++◌, drop}
use Rattle.std.specs.Prelude.{filter_map}
use Rattle.s3_meaning.specs.Source.{input_line}
use Rattle.s3_layout.proofs.kinds.input_lines.Given as goal

abbrev pub invariant-loop-line : goal.invariant-loop-line
invariant-loop-line l = filter_map input_line l.lines ≡ l.inputs.items ++ filter_map input_line (drop l.line-index l.lines)
