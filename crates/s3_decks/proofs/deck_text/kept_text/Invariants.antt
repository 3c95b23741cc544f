-- The lines so far, and those that are left.
use Rattle.std.proofs.Common.{◌≡◌, ◌+◌, ◌≤◌, drop, length, take, vec_items}
use Rattle.std.specs.Str.Lines.{lines}
use Rattle.s3_decks.specs.Inner.Decks.{joined, kept}
use Rattle.s3_decks.specs.Inner.Gaps.{AreAhead}
use Rattle.s3_decks.proofs.deck_text.kept_text.Given as goal

abbrev pub invariant-loop-line : goal.invariant-loop-line
invariant-loop-line l = (vec_items l.found ≡ joined (kept l.left_out (take l.place (lines l.text)))) × (lines l.rest ≡ drop l.place (lines l.text)) × (l.place + length l.rest ≤ length l.text) × AreAhead l.left_out l.place l.gaps

abbrev pub decreases-loop-line : goal.decreases-loop-line
decreases-loop-line l = length l.rest
