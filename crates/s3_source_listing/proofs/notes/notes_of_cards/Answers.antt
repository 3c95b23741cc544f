use Rattle.std.proofs.Common.{ap, ◌∙◌}
use Rattle.std.proofs.lemmas.Result.{IfOk-weaker}
use Rattle.s3_source_listing.specs.Inner.Notes.{marks_under, numbers_under}
use Rattle.s3_source_listing.proofs.NoteLemmas.{narrowed_marks}
use Rattle.s3_source_listing.proofs.notes.notes_of_cards.Goals as goal

pub returns-clause-marked : goal.returns-clause-marked
returns-clause-marked c = IfOk-weaker c.notes_by_card-notes.result _ _
    (λ notes so card. so card ∙ ap (marks_under card c.args.found.now) (c.in_ok-by_card.ensures card) ∙ narrowed_marks card (numbers_under card c.args.found.now) c.args.entries.now)
    c.notes_by_card-notes.ensures.marked
