-- The notes so far.
use Rattle.std.proofs.Common.{◌≡◌, ℕ, map, take}
use Rattle.s3_source_listing.specs.Inner.Notes.{entries_in, marked_of, marks_under, notes_in, number_of, numbers_under}
use Rattle.s3_source_listing.proofs.notes.notes_by_card.Given as goal

abbrev pub invariant-loop-diagnostic : goal.invariant-loop-diagnostic
invariant-loop-diagnostic l =
    ((card : ℕ) → map number_of (notes_in l.notes card) ≡ numbers_under card (take l.diagnostic-index l.found))
    × ((card : ℕ) → map marked_of (notes_in l.notes card) ≡ marks_under card (take l.diagnostic-index l.found) (entries_in l.by_card card))
