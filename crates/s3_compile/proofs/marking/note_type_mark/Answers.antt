use Rattle.std.proofs.Common.{[], ◌∷◌, ◌==◌, false, sym}
use Rattle.std.proofs.Math.Bool.{and_assoc}
use Rattle.s3_compile.proofs.NoteLemmas.{type_finds}
use Rattle.s3_compile.proofs.marking.note_type_mark.Goals as goal

pub returns : goal.returns
returns c =
    type_finds _ (λ g h i j m n. sym (and_assoc (g == h) (i == j) (m == n))) (λ g h i j m n. sym (and_assoc (g == h) (i == j) (m == n)))
    (λ g h i j m n. sym (and_assoc (g == h) (i == j) false)) (λ g h i j m n. sym (and_assoc (g == h) (i == j) false))
    c.args.table.now c.note.new.table ((c.args.mark, c.args.place) ∷ []) c.in_ok-note.ensures
