use Rattle.std.proofs.Common.{[], ◌∷◌, ℕ, subst}
use Rattle.s3_program.specs.Matching.{same_type_mark, type_mark, level}
use Rattle.s3_compile.specs.Inner.Noted.{FindsMore}
use Rattle.s3_compile.proofs.NoteLemmas.{given_more}
use Rattle.s3_compile.proofs.marking.note_level_in_type.Goals as goal

pub returns-in_ok-note_type_mark : goal.returns-in_ok-note_type_mark
returns-in_ok-note_type_mark c =
    given_more same_type_mark c.args.table.now c.note_type_mark.new.table (level c.args.key) (λ l. (type_mark c.args.group c.args.indicator l, c.args.place)) c.args.entry c.in-Some.number c.in-Some.is
    (subst (λ (n : ℕ). FindsMore same_type_mark c.args.table.now c.note_type_mark.new.table ((record { group = c.args.group; indicator = n; level = level c.args.key c.in-Some.number }, c.args.place) ∷ []))
    c.number.ensures.number c.in_ok-note_type_mark.ensures)
