use Rattle.std.proofs.Common.{◌≡◌, take}
use Rattle.std.specs.Prelude.{filter_map}
use Rattle.s3_program.specs.Inner.Given.{firsts, file_given}
use Rattle.s3_program.proofs.defining.files_defined.Given as goal

abbrev pub invariant-loop-line : goal.invariant-loop-line
invariant-loop-line l = l.table.entries ≡ firsts (filter_map file_given (take l.line-index l.lines))
