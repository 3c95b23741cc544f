use Rattle.std.proofs.Common.{◌≡◌, length, false, refl, arith, le-ltb}
use Rattle.std.specs.Prelude.{nat_lt}
use Rattle.s3_cards.specs.Deck.{fault_of}
use Rattle.s3_cards.proofs.DeckLemmas.{clean_line, spoiled_line, clean_card}
use Rattle.s3_cards.proofs.deck.punch.Goals as goal

pub returns-then-lacks_code-clause-fault : goal.returns-then-lacks_code-clause-fault
unfolding fault_of
returns-then-lacks_code-clause-fault c =
    let fits : nat_lt 96 (length c.args.line.now) ≡ false = le-ltb _ _ (omega (arith, c.if-line-gt-COLUMNS.false)) in
    rw (fits, spoiled_line c.args.line.now c.translate.new.card c.lacks_code.result c.translate.ensures c.lacks_code.ensures c.if-lacks_code.true) refl

pub returns-clause-ok : goal.returns-clause-ok
returns-clause-ok c = clean_card c.args.line.now c.translate.new.card c.lacks_code.result c.translate.ensures c.lacks_code.ensures c.if-lacks_code.false

pub returns-clause-sound : goal.returns-clause-sound
unfolding fault_of
returns-clause-sound c =
    let fits : nat_lt 96 (length c.args.line.now) ≡ false = le-ltb _ _ (omega (arith, c.if-line-gt-COLUMNS.false)) in
    rw (fits, clean_line c.args.line.now c.translate.new.card c.lacks_code.result c.translate.ensures c.lacks_code.ensures c.if-lacks_code.false) refl
