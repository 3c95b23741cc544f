use Rattle.std.proofs.Common.{refl, ◌∙◌}
use Rattle.std.proofs.lemmas.Result.{IfOk-weaker}
use Rattle.s3_blame.specs.Inner.Names.{names_known, unfit_in}
use Rattle.s3_blame.specs.Inner.OwnMarks.{editing, marks_of_output_field}
use Rattle.s3_blame.proofs.OwnLemmas.{alone_at, among_at}
use Rattle.s3_blame.proofs.PartLemmas.{alone_of_at, chosen_at}
use Rattle.s3_blame.proofs.TableLemmas.{put_8}
use Rattle.s3_blame.proofs.outputs.field_entries.Goals as goal

pub returns-in-5-clause-own : goal.returns-in-5-clause-own
returns-in-5-clause-own c = IfOk-weaker c.at_fault.result _ _
    (λ found is. alone_at (marks_of_output_field (names_known c.args.known.now) c.args.field.now) 5 c.args.card c.args.number _ (32, 37) found.items c.in-5.is refl c.entry_alone.ensures.spans c.entry_alone.ensures.fails is)
    c.at_fault.ensures.marked

pub returns-in-8-clause-own : goal.returns-in-8-clause-own
returns-in-8-clause-own c = IfOk-weaker c.at_fault-in-8.result _ _
    (λ found is. among_at (marks_of_output_field (names_known c.args.known.now) c.args.field.now) 8 c.args.card c.args.number _ (unfit_in (names_known c.args.known.now) c.args.field.now) editing found.items c.in-8.is refl (c.editing_parts.ensures.spans ∙ put_8) c.editing_parts.ensures.fails is)
    c.at_fault-in-8.ensures.marked

pub returns-in-9-clause-own : goal.returns-in-9-clause-own
returns-in-9-clause-own c = IfOk-weaker c.at_fault-in-9.result _ _
    (λ found is. alone_at (marks_of_output_field (names_known c.args.known.now) c.args.field.now) 9 c.args.card c.args.number _ (7, 14) found.items c.in-9.is refl c.entry_alone-in-9.ensures.spans c.entry_alone-in-9.ensures.fails is)
    c.at_fault-in-9.ensures.marked

pub returns-in-12-clause-own : goal.returns-in-12-clause-own
returns-in-12-clause-own c = IfOk-weaker c.at_fault-in-12.result _ _
    (λ found is. alone_at (marks_of_output_field (names_known c.args.known.now) c.args.field.now) 12 c.args.card c.args.number _ (44, 44) found.items c.in-12.is refl c.entry_alone-in-12.ensures.spans c.entry_alone-in-12.ensures.fails is)
    c.at_fault-in-12.ensures.marked

pub returns-in-5-clause-named : goal.returns-in-5-clause-named
returns-in-5-clause-named c = IfOk-weaker c.at_fault.result _ _
    (λ found is. alone_of_at (marks_of_output_field (names_known c.args.known.now) c.args.field.now) 5 c.args.card c.args.number _ (32, 37) found.items c.in-5.is refl c.entry_alone.ensures.spans c.entry_alone.ensures.fails is)
    c.at_fault.ensures.only

pub returns-in-8-clause-named : goal.returns-in-8-clause-named
returns-in-8-clause-named c = IfOk-weaker c.at_fault-in-8.result _ _
    (λ found is. chosen_at (marks_of_output_field (names_known c.args.known.now) c.args.field.now) 8 c.args.card c.args.number _ (unfit_in (names_known c.args.known.now) c.args.field.now) editing found.items c.in-8.is refl (c.editing_parts.ensures.spans ∙ put_8) c.editing_parts.ensures.fails is)
    c.at_fault-in-8.ensures.only

pub returns-in-9-clause-named : goal.returns-in-9-clause-named
returns-in-9-clause-named c = IfOk-weaker c.at_fault-in-9.result _ _
    (λ found is. alone_of_at (marks_of_output_field (names_known c.args.known.now) c.args.field.now) 9 c.args.card c.args.number _ (7, 14) found.items c.in-9.is refl c.entry_alone-in-9.ensures.spans c.entry_alone-in-9.ensures.fails is)
    c.at_fault-in-9.ensures.only

pub returns-in-12-clause-named : goal.returns-in-12-clause-named
returns-in-12-clause-named c = IfOk-weaker c.at_fault-in-12.result _ _
    (λ found is. alone_of_at (marks_of_output_field (names_known c.args.known.now) c.args.field.now) 12 c.args.card c.args.number _ (44, 44) found.items c.in-12.is refl c.entry_alone-in-12.ensures.spans c.entry_alone-in-12.ensures.fails is)
    c.at_fault-in-12.ensures.only
