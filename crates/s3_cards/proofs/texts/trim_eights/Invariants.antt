-- Blanks alone were left out so far.
use Rattle.std.proofs.Common.{◌≡◌, ◌≤◌, length}
use Rattle.s3_cards.specs.Printed.{trimmed}
use Rattle.s3_cards.proofs.texts.trim_eights.Given as goal

abbrev pub invariant-loop-front : goal.invariant-loop-front
invariant-loop-front l = (trimmed l.rest ≡ trimmed l.text) × (length l.rest ≤ length l.text)

abbrev pub decreases-loop-front : goal.decreases-loop-front
decreases-loop-front l = length l.rest
