use Rattle.std.proofs.Common.{ℕ, refl}
use Rattle.s3_program.specs.Matching.{same_level, shapes_from, shapes_on}
use Rattle.s3_compile.proofs.NoteLemmas.{covers_next, ranged_input_at}
use Rattle.s3_compile.proofs.marking.level_shapes.Goals as goal

pub note_shapes-requires : goal.note_shapes-requires
note_shapes-requires c = ranged_input_at c.args.lines.now c.loop-line.line-index _ c.loop-line-test.true c.requires

pub loop-line-preserved : goal.loop-line-preserved
loop-line-preserved c =
    covers_next same_level (λ (at : ℕ) line. shapes_on line) (λ (at : ℕ) line. 0) (λ (at : ℕ) lines. shapes_from lines) (λ at line lines. refl) c.loop-line.table c.note_shapes.new.table 0 0 c.args.lines.now c.loop-line.line-index _
    (shapes_from c.args.lines.now) c.loop-line-test.true refl c.in_ok-note_shapes.ensures c.loop-line.invariant
