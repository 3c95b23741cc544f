use Rattle.std.proofs.Common.{refl, ◌∙◌, ◌||◌}
use Rattle.std.proofs.lemmas.Result.{IfOk-weaker}
use Rattle.s3_blame.specs.Inner.OwnMarks.{entries_of_use, marks_of_file, use_fails}
use Rattle.s3_blame.proofs.OwnLemmas.{alone_at, among_at}
use Rattle.s3_blame.proofs.PartLemmas.{alone_of_at, chosen_at}
use Rattle.s3_program.specs.FileTable.{is_card_file, is_print_file}
use Rattle.s3_blame.proofs.TableLemmas.{file_6, file_12}
use Rattle.s3_blame.proofs.files.file_entries.Goals as goal

pub returns-in-6-clause-own : goal.returns-in-6-clause-own
returns-in-6-clause-own c = IfOk-weaker c.at_fault.result _ _
    (λ found is. alone_at (marks_of_file c.args.file.now) 6 c.args.card c.args.number _ (7, 14) found.items c.in-6.is refl (c.name_part.ensures.value ∙ file_6) c.name_part.ensures.fails is)
    c.at_fault.ensures.marked

pub returns-in-12-clause-own : goal.returns-in-12-clause-own
returns-in-12-clause-own c = IfOk-weaker c.at_fault-in-12.result _ _
    (λ found is. among_at (marks_of_file c.args.file.now) 12 c.args.card c.args.number _ (use_fails (is_card_file c.args.file.now || is_print_file c.args.file.now)) entries_of_use found.items c.in-12.is refl (c.use_parts.ensures.spans ∙ file_12) c.use_parts.ensures.fails is)
    c.at_fault-in-12.ensures.marked

pub returns-in-6-clause-named : goal.returns-in-6-clause-named
returns-in-6-clause-named c = IfOk-weaker c.at_fault.result _ _
    (λ found is. alone_of_at (marks_of_file c.args.file.now) 6 c.args.card c.args.number _ (7, 14) found.items c.in-6.is refl (c.name_part.ensures.value ∙ file_6) c.name_part.ensures.fails is)
    c.at_fault.ensures.only

pub returns-in-12-clause-named : goal.returns-in-12-clause-named
returns-in-12-clause-named c = IfOk-weaker c.at_fault-in-12.result _ _
    (λ found is. chosen_at (marks_of_file c.args.file.now) 12 c.args.card c.args.number _ (use_fails (is_card_file c.args.file.now || is_print_file c.args.file.now)) entries_of_use found.items c.in-12.is refl (c.use_parts.ensures.spans ∙ file_12) c.use_parts.ensures.fails is)
    c.at_fault-in-12.ensures.only
