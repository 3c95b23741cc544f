use Rattle.std.proofs.Common.{refl, ◌∙◌}
use Rattle.std.proofs.lemmas.Result.{IfOk-weaker}
use Rattle.s3_blame.specs.Inner.Names.{names_known, redefined_in, unknown_in}
use Rattle.s3_blame.specs.Inner.OwnMarks.{definitions, is_open_on_calculation, marks_of_calculation, operands, resulting}
use Rattle.s3_blame.proofs.OwnLemmas.{alone_at, among_at}
use Rattle.s3_blame.proofs.PartLemmas.{alone_of_at, chosen_at, unless_open}
use Rattle.std.specs.Prelude.{map}
use Rattle.s3_program.specs.Indications.{is_overflow_entry}
use Rattle.s3_blame.proofs.TableLemmas.{calculation_5, calculation_6, calculation_7}
use Rattle.s3_blame.proofs.calculations.calculation_entries.Goals as goal

pub returns-in-5-clause-own : goal.returns-in-5-clause-own
returns-in-5-clause-own c = IfOk-weaker c.at_fault.result _ _
    (λ found is. among_at (marks_of_calculation (names_known c.args.known.now) c.args.card c.args.line.now) 5 c.args.card c.args.number _ (unknown_in (names_known c.args.known.now) c.args.line.now) operands found.items c.in-5.is refl (c.undefined_parts.ensures.spans ∙ calculation_5) c.undefined_parts.ensures.fails is)
    c.at_fault.ensures.marked

pub returns-in-6-clause-own : goal.returns-in-6-clause-own
returns-in-6-clause-own c = IfOk-weaker c.at_fault-in-6.result _ _
    (λ found is. among_at (marks_of_calculation (names_known c.args.known.now) c.args.card c.args.line.now) 6 c.args.card c.args.number _ (redefined_in (names_known c.args.known.now) c.args.card c.args.line.now) definitions found.items c.in-6.is refl (c.redefined_parts.ensures.spans ∙ calculation_6) c.redefined_parts.ensures.fails is)
    c.at_fault-in-6.ensures.marked

pub returns-in-7-clause-own : goal.returns-in-7-clause-own
returns-in-7-clause-own c = IfOk-weaker c.at_fault-in-7.result _ _
    (λ found is. among_at (marks_of_calculation (names_known c.args.known.now) c.args.card c.args.line.now) 7 c.args.card c.args.number _ (map is_overflow_entry c.args.line.now.indicators) resulting found.items c.in-7.is refl (c.overflow_parts.ensures.spans ∙ calculation_7) c.overflow_parts.ensures.fails is)
    c.at_fault-in-7.ensures.marked

pub returns-in-10-clause-own : goal.returns-in-10-clause-own
returns-in-10-clause-own c = IfOk-weaker c.at_fault-in-10.result _ _
    (λ found is. alone_at (marks_of_calculation (names_known c.args.known.now) c.args.card c.args.line.now) 10 c.args.card c.args.number _ (33, 42) found.items c.in-10.is refl c.entry_alone.ensures.spans c.entry_alone.ensures.fails is)
    c.at_fault-in-10.ensures.marked

pub returns-in-5-clause-named : goal.returns-in-5-clause-named
returns-in-5-clause-named c = IfOk-weaker c.at_fault.result _ _
    (λ found is shut. chosen_at (marks_of_calculation (names_known c.args.known.now) c.args.card c.args.line.now) 5 c.args.card c.args.number _ (unknown_in (names_known c.args.known.now) c.args.line.now) operands found.items c.in-5.is refl (c.undefined_parts.ensures.spans ∙ calculation_5) c.undefined_parts.ensures.fails is)
    c.at_fault.ensures.only

pub returns-in-6-clause-named : goal.returns-in-6-clause-named
returns-in-6-clause-named c = IfOk-weaker c.at_fault-in-6.result _ _
    (λ found is shut. chosen_at (marks_of_calculation (names_known c.args.known.now) c.args.card c.args.line.now) 6 c.args.card c.args.number _ (redefined_in (names_known c.args.known.now) c.args.card c.args.line.now) definitions found.items c.in-6.is refl (c.redefined_parts.ensures.spans ∙ calculation_6) c.redefined_parts.ensures.fails is)
    c.at_fault-in-6.ensures.only

pub returns-in-7-clause-named : goal.returns-in-7-clause-named
returns-in-7-clause-named c = IfOk-weaker c.at_fault-in-7.result _ _
    (λ found is shut. chosen_at (marks_of_calculation (names_known c.args.known.now) c.args.card c.args.line.now) 7 c.args.card c.args.number _ (map is_overflow_entry c.args.line.now.indicators) resulting found.items c.in-7.is refl (c.overflow_parts.ensures.spans ∙ calculation_7) c.overflow_parts.ensures.fails is)
    c.at_fault-in-7.ensures.only

pub returns-in-10-clause-named : goal.returns-in-10-clause-named
returns-in-10-clause-named c = IfOk-weaker c.at_fault-in-10.result _ _
    (λ found is shut. alone_of_at (marks_of_calculation (names_known c.args.known.now) c.args.card c.args.line.now) 10 c.args.card c.args.number _ (33, 42) found.items c.in-10.is refl c.entry_alone.ensures.spans c.entry_alone.ensures.fails is)
    c.at_fault-in-10.ensures.only

pub returns-in-8-clause-named : goal.returns-in-8-clause-named
returns-in-8-clause-named c = IfOk-weaker c.at_fault-in-8.result _ _
    (λ found is shut. unless_open _ is_open_on_calculation 8 c.args.number c.in-8.is refl shut)
    c.at_fault-in-8.ensures.only

pub returns-in-9-clause-named : goal.returns-in-9-clause-named
returns-in-9-clause-named c = IfOk-weaker c.at_fault-in-9.result _ _
    (λ found is shut. unless_open _ is_open_on_calculation 9 c.args.number c.in-9.is refl shut)
    c.at_fault-in-9.ensures.only
