-- The messages so far.
use Rattle.std.proofs.Common.{◌≡◌, take, vec_items}
use Rattle.s3_source_listing.specs.Inner.Messages.{errors_by_card}
use Rattle.s3_source_listing.specs.Inner.Notes.{entries_in}
use Rattle.s3_source_listing.proofs.messages.errors_by_card.Given as goal

abbrev pub invariant-loop-diagnostic : goal.invariant-loop-diagnostic
invariant-loop-diagnostic l = vec_items l.messages ≡ errors_by_card l.run (entries_in l.by_card) (take l.diagnostic-index l.found)
