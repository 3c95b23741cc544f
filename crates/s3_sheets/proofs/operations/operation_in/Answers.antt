use Rattle.std.proofs.Common.{◌∙◌, ap, sym, arith}
use Rattle.s3_sheets.specs.Columns.{same_codes}
use Rattle.s3_sheets.proofs.OperationLemmas.{found_there, not_there, found_nowhere}
use Rattle.s3_sheets.proofs.operations.operation_in.Goals as goal

pub returns-then-eq : goal.returns-then-eq
returns-then-eq c = found_there c.args.rows.now c.args.word.now c.loop-row.row-index _ c.loop-row.invariant c.loop-row-test.true (cc)

pub loop-row-preserved : goal.loop-row-preserved
loop-row-preserved c =
    not_there c.args.rows.now c.args.word.now c.loop-row.row-index _ c.loop-row.invariant c.loop-row-test.true
    (ap (same_codes c.args.word.now) (sym c.as_slice.ensures) ∙ (sym c.eq.ensures ∙ c.if-eq.false))

pub returns : goal.returns
returns c = found_nowhere c.args.rows.now c.args.word.now c.loop-row.row-index c.loop-row.invariant (omega arith)
