use Rattle.s3_program.specs.Matching.{same_level, level}
use Rattle.s3_compile.proofs.NoteLemmas.{given_more}
use Rattle.s3_compile.proofs.marking.note_shape.Goals as goal

pub returns-in_ok-note_level : goal.returns-in_ok-note_level
returns-in_ok-note_level c =
    given_more same_level c.args.table.now c.note_level.new.table (level c.args.key) (λ l. (l, c.args.shape)) c.args.entry c.in-Some.number c.in-Some.is c.in_ok-note_level.ensures
