use Rattle.std.proofs.Common.{◌≡◌, true, sym, ◌∙◌, arith}
use Rattle.s3_ocl.specs.Parameters.{goes_on}
use Rattle.s3_ocl.proofs.PieceLemmas.{cards_end, other_card, text_goes_on}
use Rattle.s3_ocl.proofs.statements.next_text.Goals as goal

pub returns-in-None-clause-texts : goal.returns-in-None-clause-texts
returns-in-None-clause-texts c = cards_end c.args.text.now c.args.cards.now c.args.place (sym c.in-None.ensures.card)

pub returns-then-is_continuation-clause-texts : goal.returns-then-is_continuation-clause-texts
returns-then-is_continuation-clause-texts c =
    let goes : goes_on c.args.text.now ≡ true = grind (arith, c.goes_on.ensures, c.if-not-goes_on.false) in
    text_goes_on c.args.text.now _ c.args.cards.now c.args.place c.in-Some.card.now goes (sym c.in-Some.ensures.card)
    (sym c.is_continuation.ensures ∙ c.if-is_continuation.true) c.first_word.ensures

pub returns-else-is_continuation-clause-texts : goal.returns-else-is_continuation-clause-texts
returns-else-is_continuation-clause-texts c =
    other_card c.args.text.now c.args.cards.now c.args.place c.in-Some.card.now (sym c.in-Some.ensures.card)
    (sym c.is_continuation.ensures ∙ c.if-is_continuation.false)
