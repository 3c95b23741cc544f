use Rattle.std.proofs.Common.{◌≡◌, drop}
use Rattle.std.specs.Prelude.{filter_map}
use Rattle.s3_meaning.specs.Source.{calculation_line}
use Rattle.s3_program.specs.Inner.Given.{all_noted}
use Rattle.s3_diagnose.specs.Lookups.{result_given}
use Rattle.s3_blame.proofs.known.note_results.Given as goal

abbrev pub invariant-loop-line : goal.invariant-loop-line
invariant-loop-line l =
    all_noted l.table.entries (filter_map result_given (filter_map calculation_line (drop l.line-index l.lines)))
    ≡ all_noted l.initial.table.entries (filter_map result_given (filter_map calculation_line l.lines))
