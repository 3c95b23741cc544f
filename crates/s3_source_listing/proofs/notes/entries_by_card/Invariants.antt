-- The entries so far.
use Rattle.std.proofs.Common.{◌≡◌, ℕ, take, filter}
use Rattle.s3_source_listing.specs.Inner.Notes.{entries_in, is_on}
use Rattle.s3_source_listing.proofs.notes.entries_by_card.Given as goal

abbrev pub invariant-loop-entry : goal.invariant-loop-entry
invariant-loop-entry l = (card : ℕ) → entries_in l.by_card card ≡ filter (is_on card) (take l.entry-index l.entries)
