-- The lines so far.
use Rattle.std.proofs.Common.{◌≡◌, ◌++◌, map, take, vec_items}
use Rattle.s3_decks.specs.Inner.Decks.{line_seen, lines_of}
use Rattle.s3_decks.proofs.deck_text.push_lines.Given as goal

abbrev pub invariant-loop-line : goal.invariant-loop-line
invariant-loop-line l = map line_seen (vec_items l.places) ≡ map line_seen (vec_items l.initial.places) ++ lines_of l.file (take l.line-index l.lines)
