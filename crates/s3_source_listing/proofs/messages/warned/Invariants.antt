-- The messages so far, and the last warning.
use Rattle.std.proofs.Common.{◌≡◌, [], None, take, vec_items}
use Rattle.std.specs.List.{fold}
use Rattle.s3_source_listing.specs.Inner.Messages.{with_warning}
use Rattle.s3_source_listing.proofs.messages.warned.Given as goal

abbrev pub invariant-loop-warning : goal.invariant-loop-warning
invariant-loop-warning l = (l.last, vec_items l.messages) ≡ fold with_warning (None, []) (take l.warning-index l.warnings)
