-- No more cards are counted than a deck has.
use Rattle.std.proofs.Common.{◌≤◌}
use Rattle.s3_paper_commands.proofs.punch_check.messages_of.Given as goal

abbrev pub invariant-loop-file : goal.invariant-loop-file
invariant-loop-file l = l.begun.cards ≤ 9999
