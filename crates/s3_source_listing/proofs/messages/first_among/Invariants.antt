-- The first of the entries so far.
use Rattle.std.proofs.Common.{◌≡◌, take}
use Rattle.std.specs.List.{fold}
use Rattle.s3_source_listing.specs.Inner.Messages.{earlier}
use Rattle.s3_source_listing.proofs.messages.first_among.Given as goal

abbrev pub invariant-loop-columns : goal.invariant-loop-columns
invariant-loop-columns l = l.best ≡ fold earlier l.fn.first (take l.columns-index l.more)
