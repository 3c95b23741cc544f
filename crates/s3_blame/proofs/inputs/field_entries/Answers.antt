use Rattle.std.proofs.Common.{refl, ◌∙◌}
use Rattle.std.proofs.lemmas.Result.{IfOk-weaker}
use Rattle.s3_blame.specs.Inner.Names.{names_known, redefined_field}
use Rattle.s3_blame.specs.Inner.OwnMarks.{definition_of_field, is_open_on_field, marks_of_field}
use Rattle.s3_blame.proofs.OwnLemmas.{alone_at, among_at}
use Rattle.s3_blame.proofs.PartLemmas.{alone_of_at, chosen_at, unless_open}
use Rattle.s3_blame.proofs.TableLemmas.{field_6}
use Rattle.s3_blame.proofs.inputs.field_entries.Goals as goal

pub returns-in-6-clause-own : goal.returns-in-6-clause-own
returns-in-6-clause-own c = IfOk-weaker c.at_fault.result _ _
    (λ found is. among_at (marks_of_field (names_known c.args.known.now) c.args.field.now) 6 c.args.card c.args.number _ (redefined_field (names_known c.args.known.now) c.args.field.now) definition_of_field found.items c.in-6.is refl (c.shape_parts.ensures.spans ∙ field_6) c.shape_parts.ensures.fails is)
    c.at_fault.ensures.marked

pub returns-in-8-clause-own : goal.returns-in-8-clause-own
returns-in-8-clause-own c = IfOk-weaker c.at_fault-in-8.result _ _
    (λ found is. alone_at (marks_of_field (names_known c.args.known.now) c.args.field.now) 8 c.args.card c.args.number _ (43, 43) found.items c.in-8.is refl c.entry_alone.ensures.spans c.entry_alone.ensures.fails is)
    c.at_fault-in-8.ensures.marked

pub returns-in-9-clause-own : goal.returns-in-9-clause-own
returns-in-9-clause-own c = IfOk-weaker c.at_fault-in-9.result _ _
    (λ found is. alone_at (marks_of_field (names_known c.args.known.now) c.args.field.now) 9 c.args.card c.args.number _ (7, 14) found.items c.in-9.is refl c.entry_alone-in-9.ensures.spans c.entry_alone-in-9.ensures.fails is)
    c.at_fault-in-9.ensures.marked

pub returns-in-12-clause-own : goal.returns-in-12-clause-own
returns-in-12-clause-own c = IfOk-weaker c.at_fault-in-12.result _ _
    (λ found is. alone_at (marks_of_field (names_known c.args.known.now) c.args.field.now) 12 c.args.card c.args.number _ (43, 43) found.items c.in-12.is refl c.entry_alone-in-12.ensures.spans c.entry_alone-in-12.ensures.fails is)
    c.at_fault-in-12.ensures.marked

pub returns-in-6-clause-named : goal.returns-in-6-clause-named
returns-in-6-clause-named c = IfOk-weaker c.at_fault.result _ _
    (λ found is shut. chosen_at (marks_of_field (names_known c.args.known.now) c.args.field.now) 6 c.args.card c.args.number _ (redefined_field (names_known c.args.known.now) c.args.field.now) definition_of_field found.items c.in-6.is refl (c.shape_parts.ensures.spans ∙ field_6) c.shape_parts.ensures.fails is)
    c.at_fault.ensures.only

pub returns-in-8-clause-named : goal.returns-in-8-clause-named
returns-in-8-clause-named c = IfOk-weaker c.at_fault-in-8.result _ _
    (λ found is shut. alone_of_at (marks_of_field (names_known c.args.known.now) c.args.field.now) 8 c.args.card c.args.number _ (43, 43) found.items c.in-8.is refl c.entry_alone.ensures.spans c.entry_alone.ensures.fails is)
    c.at_fault-in-8.ensures.only

pub returns-in-9-clause-named : goal.returns-in-9-clause-named
returns-in-9-clause-named c = IfOk-weaker c.at_fault-in-9.result _ _
    (λ found is shut. alone_of_at (marks_of_field (names_known c.args.known.now) c.args.field.now) 9 c.args.card c.args.number _ (7, 14) found.items c.in-9.is refl c.entry_alone-in-9.ensures.spans c.entry_alone-in-9.ensures.fails is)
    c.at_fault-in-9.ensures.only

pub returns-in-12-clause-named : goal.returns-in-12-clause-named
returns-in-12-clause-named c = IfOk-weaker c.at_fault-in-12.result _ _
    (λ found is shut. alone_of_at (marks_of_field (names_known c.args.known.now) c.args.field.now) 12 c.args.card c.args.number _ (43, 43) found.items c.in-12.is refl c.entry_alone-in-12.ensures.spans c.entry_alone-in-12.ensures.fails is)
    c.at_fault-in-12.ensures.only

pub returns-in-7-clause-named : goal.returns-in-7-clause-named
returns-in-7-clause-named c = IfOk-weaker c.at_fault-in-7.result _ _
    (λ found is shut. unless_open _ is_open_on_field 7 c.args.number c.in-7.is refl shut)
    c.at_fault-in-7.ensures.only

pub returns-in-11-clause-named : goal.returns-in-11-clause-named
returns-in-11-clause-named c = IfOk-weaker c.at_fault-in-11.result _ _
    (λ found is shut. unless_open _ is_open_on_field 11 c.args.number c.in-11.is refl shut)
    c.at_fault-in-11.ensures.only
