use Rattle.std.proofs.Common.{[], ◌∷◌, refl}
use Rattle.s3_compile.proofs.NoteLemmas.{group_finds}
use Rattle.s3_compile.proofs.marking.note_group_mark.Goals as goal

pub returns : goal.returns
returns c = group_finds _ (λ g h m n. refl) (λ g h m n. refl) (λ g h m n. refl) (λ g h m n. refl) c.args.table.now c.note.new.table ((c.args.mark, c.args.place) ∷ []) c.in_ok-note.ensures
