use Rattle.std.proofs.Common.{◌≡◌, take}
use Rattle.std.specs.Prelude.{filter_map}
use Rattle.s3_program.specs.Inner.Given.{all_noted}
use Rattle.s3_warnings.specs.Inner.Facts.{shape_given}
use Rattle.s3_warnings.proofs.shapes.note_shapes.Given as goal

abbrev pub invariant-loop-line : goal.invariant-loop-line
invariant-loop-line l = l.shapes.entries ≡ all_noted l.initial.shapes.entries (filter_map shape_given (take l.line-index l.lines))
