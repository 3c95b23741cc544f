use Rattle.std.proofs.Common.{◌+◌, ◌-◌, arith, length, drop, length-drop}
use Rattle.std.proofs.lemmas.List.{take_all}
use Rattle.s3_cards.proofs.DeckLemmas.{likely_line}
use Rattle.s3_cards.proofs.deck.punch_likely.Goals as goal

pub returns-in-Ok-clause-card : goal.returns-in-Ok-clause-card
returns-in-Ok-clause-card c =
    let n = c.args.width + 1 in
    likely_line c.args.text.now c.punch.new.card _ c.args.width (omega (arith, c.if-width-text.false)) (grind (arith, c.if-text-width-ne10.false)) c.in-Ok.ensures.sound c.in-Ok.ensures.ok
    (take_all (length c.args.text.now - n) (drop n c.args.text.now) (omega (arith, length-drop n c.args.text.now)))
