-- The lines so far, and those that are left.
use Rattle.std.proofs.Common.{◌≡◌, ◌+◌, ◌++◌, ◌≤◌, length, map, vec_items}
use Rattle.std.specs.Str.Lines.{lines}
use Rattle.s3_decks.specs.Inner.Decks.{first_lines, line_seen}
use Rattle.s3_decks.proofs.deck_text.push_places.Given as goal

abbrev pub invariant-loop-line : goal.invariant-loop-line
invariant-loop-line l = (map line_seen (vec_items l.places) ≡ map line_seen (vec_items l.initial.places) ++ first_lines l.file l.line) × (l.line + length (lines l.rest) ≡ length (lines l.bytes)) × (l.line + length l.rest ≤ length l.bytes)

abbrev pub decreases-loop-line : goal.decreases-loop-line
decreases-loop-line l = length l.rest
