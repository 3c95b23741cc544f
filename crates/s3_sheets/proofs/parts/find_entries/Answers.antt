use Rattle.std.proofs.Common.{arith}
use Rattle.s3_sheets.proofs.PartLemmas.{none_found, card_found, all_found}
use Rattle.s3_sheets.proofs.parts.find_entries.Goals as goal

pub loop-place-init : goal.loop-place-init
loop-place-init c = none_found _ _ _ _ c.requires.none_found c.requires.first

pub loop-place-preserved : goal.loop-place-preserved
loop-place-preserved c =
    card_found _ _ _ _ _ _ _ _ _ _ c.loop-place.invariant c.loop-place-test.true c.position_length-length.ensures c.in_ok-standing.ensures.standing
    c.in_ok-standing.ensures.kept c.in_ok-push_card.ensures

pub returns : goal.returns
returns c = all_found _ _ _ _ _ c.loop-place.invariant (omega arith)
