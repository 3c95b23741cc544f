-- Blanks alone were left out so far.
use Rattle.std.proofs.Common.{◌≡◌, ◌≤◌, length}
use Rattle.s3_cards.specs.Printed.{trimmed}
use Rattle.s3_cards.proofs.texts.trim_blanks.Given as goal

abbrev pub invariant-loop-last : goal.invariant-loop-last
invariant-loop-last l = (trimmed l.rest ≡ trimmed l.text) × (length l.rest ≤ length l.text)

abbrev pub decreases-loop-last : goal.decreases-loop-last
decreases-loop-last l = length l.rest
