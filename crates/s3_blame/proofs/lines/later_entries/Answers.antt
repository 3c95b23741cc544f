use Rattle.std.proofs.lemmas.Result.{IfOk-weaker}
use Rattle.s3_blame.proofs.NameLemmas.{all_marks_by_lines, marks_by_lines}
use Rattle.s3_blame.proofs.lines.later_entries.Goals as goal

pub returns-clause-only : goal.returns-clause-only
returns-clause-only c = IfOk-weaker c.entries_of_lines-found.result _ _
    (λ found only read. marks_by_lines c.args.lines.now c.in_ok-known.known found.items c.in_ok-known.ensures read only)
    c.entries_of_lines-found.ensures.only

pub returns-clause-marked : goal.returns-clause-marked
returns-clause-marked c = IfOk-weaker c.entries_of_lines-found.result _ _
    (λ found marked read order from ascend. all_marks_by_lines c.args.lines.now c.in_ok-known.known c.args.told.now found.items c.in_ok-known.ensures read (marked order from ascend))
    c.entries_of_lines-found.ensures.marked
