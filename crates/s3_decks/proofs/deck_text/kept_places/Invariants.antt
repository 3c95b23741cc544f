-- The places so far.
use Rattle.std.proofs.Common.{◌≡◌, map, take, vec_items}
use Rattle.s3_decks.specs.Inner.Decks.{kept, line_seen}
use Rattle.s3_decks.specs.Inner.Gaps.{AreAhead}
use Rattle.s3_decks.proofs.deck_text.kept_places.Given as goal

abbrev pub invariant-loop-place : goal.invariant-loop-place
invariant-loop-place l = (map line_seen (vec_items l.found) ≡ kept l.left_out (take l.place (map line_seen l.places))) × AreAhead l.left_out l.place l.gaps
