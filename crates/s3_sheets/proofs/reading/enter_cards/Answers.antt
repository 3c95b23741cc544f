use Rattle.std.proofs.Common.{[], arith}
use Rattle.s3_sheets.proofs.ReadingLemmas.{nothing_read, card_read, all_found, all_lines}
use Rattle.s3_sheets.proofs.reading.enter_cards.Goals as goal

pub loop-place-init : goal.loop-place-init
loop-place-init c = nothing_read _ _ _ _ _ c.requires.none_found c.requires.no_lines c.requires.first

pub loop-place-preserved : goal.loop-place-preserved
loop-place-preserved c =
    card_read _ _ _ _ _ _ _ _ _ _ [] c.loop-place.invariant c.loop-place-test.true c.in_ok-standing.ensures.standing c.in_ok-standing.ensures.kept
    c.in_ok-diagnose.ensures c.in_ok-add_line.ensures

pub returns-clause-lines : goal.returns-clause-lines
returns-clause-lines c = all_lines _ _ _ _ _ _ c.loop-place.invariant (omega arith)

pub returns-clause-found : goal.returns-clause-found
returns-clause-found c = all_found _ _ _ _ _ _ c.loop-place.invariant (omega arith)
