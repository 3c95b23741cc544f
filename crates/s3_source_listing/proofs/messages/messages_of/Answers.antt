use Rattle.std.proofs.Common.{ap, map, sym, ◌∙◌}
use Rattle.std.proofs.lemmas.Result.{IfOk-weaker}
use Rattle.s3_source_listing.specs.Inner.Messages.{diagnosed}
use Rattle.s3_source_listing.proofs.MessageLemmas.{diagnosed_all, no_card_at_fault, same_errors}
use Rattle.s3_source_listing.proofs.messages.messages_of.Goals as goal

pub returns-clause-errors : goal.returns-clause-errors
returns-clause-errors c = IfOk-weaker c.messages_with-found.result _ _
    (λ found so. ap (map diagnosed) so ∙ diagnosed_all c.args.run _ _ ∙ c.in_ok-faults.ensures.diagnostics)
    c.messages_with-found.ensures.errors

pub returns-clause-columns : goal.returns-clause-columns
returns-clause-columns c = IfOk-weaker c.messages_with-found.result _ _
    (λ found so at_fault. same_errors c.args.run _ _ _ _ found.errors.items so (c.in_ok-faults.ensures.entries at_fault) c.in_ok-faults.ensures.diagnostics)
    c.messages_with-found.ensures.errors

pub returns-clause-warnings : goal.returns-clause-warnings
returns-clause-warnings c = IfOk-weaker c.messages_with-found.result _ _
    (λ found so none. so (c.in_ok-faults.ensures.diagnostics ∙ none) (no_card_at_fault _ _ _ none))
    c.messages_with-found.ensures.warned

pub returns-clause-no_warnings : goal.returns-clause-no_warnings
returns-clause-no_warnings c = IfOk-weaker c.messages_with-found.result _ _
    (λ found so some. so (λ none. some (sym c.in_ok-faults.ensures.diagnostics ∙ none)))
    c.messages_with-found.ensures.none
