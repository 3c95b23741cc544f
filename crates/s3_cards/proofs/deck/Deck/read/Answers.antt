use Rattle.std.proofs.Common.{◌≡◌, ◌≢◌, ◌<◌, [], ap, arith, length, rules}
use Rattle.std.proofs.lemmas.List.{nil_from_length}
use Rattle.std.specs.Str.Lines.{lines}
use Rattle.s3_cards.proofs.DeckLemmas.{fault_first, too_many_left, all_read_at}
use Rattle.s3_cards.proofs.deck.Deck.read.Goals as goal

pub returns-then-len-eq-MAX_CARDS-clause-value : goal.returns-then-len-eq-MAX_CARDS-clause-value
returns-then-len-eq-MAX_CARDS-clause-value c =
    let full : length c.loop-rest.cards.items ≡ 9999 = omega arith in
    let some : c.loop-rest.rest.now ≢ [] = search rules in
    too_many_left _ _ _ c.loop-rest.invariant some full

pub returns-in-Err-clause-value : goal.returns-in-Err-clause-value
returns-in-Err-clause-value c =
    let room : length c.loop-rest.cards.items < 9999 = omega (arith, c.loop-rest.invariant.room) in
    let n : c.len-in-Err.result ≡ length c.loop-rest.cards.items = omega arith in
    rw n (fault_first _ _ c.loop-rest.rest.now _ c.loop-rest.invariant room c.in-Err.ensures.fault)

pub returns-clause-value : goal.returns-clause-value
returns-clause-value c = let none : c.loop-rest.rest.now ≡ [] = nil_from_length _ (grind (arith, c.is_empty.ensures, c.loop-rest-test.ensures, c.loop-rest-test.false)) in all_read_at _ _ _ c.loop-rest.invariant (ap lines none)
