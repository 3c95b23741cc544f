-- The codes of so many columns, and then blanks.
use Rattle.std.proofs.Common.{◌≡◌, ◌+◌, ◌-◌, ◌≤◌, length}
use Rattle.s3_cards.specs.Inner.Deck.{codes_to}
use Rattle.s3_cards.proofs.deck.translate_groups.Given as goal

abbrev pub invariant-groups : goal.invariant-groups
invariant-groups g l = record {
  codes : l.card ≡ codes_to l.end l.line;
  within : l.end ≤ length l.line;
}

abbrev pub decreases-groups : goal.decreases-groups
decreases-groups g l = length l.line - l.end

abbrev pub invariant-loop-place : goal.invariant-loop-place
invariant-loop-place g l = l.card ≡ codes_to (l.end + l.place) l.line
