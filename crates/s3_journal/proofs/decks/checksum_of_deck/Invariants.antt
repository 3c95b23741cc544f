-- The cards of what is left go before those that are kept.
use Rattle.std.proofs.Common.{◌≡◌, length, reverse}
use Rattle.s3_journal.specs.Inner.Decks.{cards_of}
use Rattle.s3_journal.proofs.CardLemmas.{cards_onto}
use Rattle.s3_journal.proofs.decks.checksum_of_deck.Given as goal

abbrev pub invariant-loop-last : goal.invariant-loop-last
invariant-loop-last l = cards_onto l.left (reverse l.kept.items) ≡ cards_of l.text

abbrev pub decreases-loop-last : goal.decreases-loop-last
decreases-loop-last l = length l.left
