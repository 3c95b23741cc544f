use Rattle.s3_source_listing.specs.Inner.Notes.{entries_in}
use Rattle.s3_source_listing.proofs.MessageLemmas.{error_more}
use Rattle.s3_source_listing.proofs.messages.errors_by_card.Goals as goal

pub loop-diagnostic-preserved : goal.loop-diagnostic-preserved
loop-diagnostic-preserved c =
    error_more c.args.run (entries_in c.args.by_card.now) c.entries_on-of_card.result.now c.args.found.now c.loop-diagnostic.diagnostic-index _ _ _ c.in_ok-error_of.field-0
    c.loop-diagnostic-test.true c.entries_on-of_card.ensures c.in_ok-error_of.ensures c.in_ok-push.ensures.items c.loop-diagnostic.invariant
