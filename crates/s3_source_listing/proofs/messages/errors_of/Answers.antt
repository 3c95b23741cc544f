use Rattle.std.proofs.Common.{◌∙◌}
use Rattle.std.proofs.lemmas.Result.{IfOk-weaker}
use Rattle.s3_source_listing.proofs.MessageLemmas.{errors_with_all}
use Rattle.s3_source_listing.proofs.messages.errors_of.Goals as goal

pub returns : goal.returns
returns c = IfOk-weaker c.errors_by_card-messages.result _ _
    (λ messages so. so ∙ errors_with_all c.args.run c.args.entries.now _ c.args.found.now c.in_ok-by_card.ensures)
    c.errors_by_card-messages.ensures
