-- No more cards are counted than a deck has.
use Rattle.std.proofs.Common.{◌≤◌}
use Rattle.s3_paper_commands.proofs.deck.read_deck.Given as goal

abbrev pub invariant-loop-path : goal.invariant-loop-path
invariant-loop-path l = l.standing.begun.cards ≤ 9999
