-- Blanks alone were left out so far.
use Rattle.std.proofs.Common.{◌≡◌, length}
use Rattle.s3_ocl.specs.Cards.{from_word}
use Rattle.s3_ocl.proofs.cards.behind_eights.Given as goal

abbrev pub invariant-loop-first : goal.invariant-loop-first
invariant-loop-first l = from_word l.rest ≡ from_word l.text

abbrev pub decreases-loop-first : goal.decreases-loop-first
decreases-loop-first l = length l.rest
