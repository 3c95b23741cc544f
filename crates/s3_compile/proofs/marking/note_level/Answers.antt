use Rattle.std.proofs.Common.{[], ◌∷◌, refl}
use Rattle.s3_compile.proofs.NoteLemmas.{level_finds}
use Rattle.s3_compile.proofs.marking.note_level.Goals as goal

pub returns : goal.returns
returns c = level_finds _ (λ m n. refl) (λ m n. refl) (λ m n. refl) (λ m n. refl) c.args.table.now c.note.new.table ((c.args.level, c.args.shape) ∷ []) c.in_ok-note.ensures
