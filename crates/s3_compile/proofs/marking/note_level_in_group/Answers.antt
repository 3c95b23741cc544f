use Rattle.s3_program.specs.Matching.{same_group_mark, group_mark, level}
use Rattle.s3_compile.proofs.NoteLemmas.{given_more}
use Rattle.s3_compile.proofs.marking.note_level_in_group.Goals as goal

pub returns-in_ok-note_group_mark : goal.returns-in_ok-note_group_mark
returns-in_ok-note_group_mark c =
    given_more same_group_mark c.args.table.now c.note_group_mark.new.table (level c.args.key) (λ l. (group_mark c.args.group l, c.args.place)) c.args.entry c.in-Some.number c.in-Some.is c.in_ok-note_group_mark.ensures
