use Rattle.std.proofs.Common.{◌≡◌, drop}
use Rattle.std.specs.Prelude.{filter_map, IsTrue}
use Rattle.s3_meaning.specs.Source.{input_line}
use Rattle.s3_program.specs.Inner.Given.{all_noted}
use Rattle.s3_lines.specs.Inner.Ranges.{are_read}
use Rattle.s3_diagnose.specs.Lookups.{input_given}
use Rattle.s3_blame.proofs.known.note_fields.Given as goal

abbrev pub invariant-loop-line : goal.invariant-loop-line
invariant-loop-line l = IsTrue (are_read l.lines)
    → all_noted l.table.entries (filter_map input_given (filter_map input_line (drop l.line-index l.lines)))
    ≡ all_noted l.initial.table.entries (filter_map input_given (filter_map input_line l.lines))
