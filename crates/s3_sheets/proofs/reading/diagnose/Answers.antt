use Rattle.s3_sheets.specs.Sheets.{card_holds, numbers}
use Rattle.s3_sheets.proofs.DiagnoseLemmas.{one_more}
use Rattle.s3_sheets.proofs.reading.diagnose.Goals as goal

pub loop-diagnostic-preserved : goal.loop-diagnostic-preserved
loop-diagnostic-preserved c =
    one_more (card_holds c.args.standing) (λ n. record { card = c.args.number; number = n }) numbers c.loop-diagnostic.diagnostic-index _ c.args.found.now.items c.loop-diagnostic.found.items _ c.loop-diagnostic-test.true c.loop-diagnostic.invariant c.in_ok-add_diagnostic.ensures
