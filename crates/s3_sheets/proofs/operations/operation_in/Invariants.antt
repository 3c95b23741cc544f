use Rattle.std.proofs.Common.{◌≡◌}
use Rattle.std.specs.Prelude.{map}
use Rattle.s3_sheets.specs.Entries.{operation_in}
use Rattle.s3_sheets.specs.Inner.RuleViews.{row_view}
use Rattle.s3_sheets.proofs.OperationLemmas.{searched}
use Rattle.s3_sheets.proofs.operations.operation_in.Given as goal

abbrev pub invariant-loop-row : goal.invariant-loop-row
invariant-loop-row l = operation_in (map row_view l.rows) l.word ≡ searched l.rows l.word l.row-index
