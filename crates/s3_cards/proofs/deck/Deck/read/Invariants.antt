use Rattle.std.proofs.Common.{length}
use Rattle.std.specs.Str.Lines.{lines}
use Rattle.s3_cards.proofs.DeckLemmas.{ReadSoFar}
use Rattle.s3_cards.proofs.deck.Deck.read.Given as goal

abbrev pub invariant-loop-rest : goal.invariant-loop-rest
invariant-loop-rest l = ReadSoFar l.cards.items (lines l.text) (lines l.rest)

abbrev pub decreases-loop-rest : goal.decreases-loop-rest
decreases-loop-rest l = length l.rest
