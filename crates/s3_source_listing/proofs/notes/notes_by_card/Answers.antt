use Rattle.std.proofs.Common.{map, arith, ap, ◌∙◌}
use Rattle.std.proofs.lemmas.List.{take_all}
use Rattle.s3_source_listing.specs.Inner.Notes.{entries_in, marked_of, marks_under, notes_in, number_of, numbers_under}
use Rattle.s3_source_listing.proofs.NoteLemmas.{marked, numbered}
use Rattle.s3_source_listing.proofs.notes.notes_by_card.Goals as goal

pub loop-diagnostic-preserved : goal.loop-diagnostic-preserved
loop-diagnostic-preserved c = (
  (λ card. numbered c.args.found.now c.loop-diagnostic.diagnostic-index _ (map number_of (notes_in c.loop-diagnostic.notes card)) (map number_of (notes_in c.add_diagnostic.new.notes card)) card
      c.loop-diagnostic-test.true (c.in_ok-add_diagnostic.ensures.numbers card) (c.loop-diagnostic.invariant.0 card)),
  (λ card. marked c.args.found.now (entries_in c.args.by_card.now) c.entries_on-of_card.result.now c.loop-diagnostic.diagnostic-index _ (map marked_of (notes_in c.loop-diagnostic.notes card)) (map marked_of (notes_in c.add_diagnostic.new.notes card)) card
      c.loop-diagnostic-test.true c.entries_on-of_card.ensures (c.in_ok-add_diagnostic.ensures.marked card) (c.loop-diagnostic.invariant.1 card)),
)

pub returns-clause-numbers : goal.returns-clause-numbers
returns-clause-numbers c card =
    c.loop-diagnostic.invariant.0 card
    ∙ ap (numbers_under card) (take_all c.loop-diagnostic.diagnostic-index c.args.found.now (omega (arith, c.loop-diagnostic-test.false)))

pub returns-clause-marked : goal.returns-clause-marked
returns-clause-marked c card =
    c.loop-diagnostic.invariant.1 card
    ∙ ap (λ found. marks_under card found (entries_in c.args.by_card.now card)) (take_all c.loop-diagnostic.diagnostic-index c.args.found.now (omega (arith, c.loop-diagnostic-test.false)))
