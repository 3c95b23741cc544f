use Rattle.std.proofs.Common.{drop}
use Rattle.s3_program.specs.Matching.{same_level, shapes_from}
use Rattle.s3_compile.proofs.NoteLemmas.{Covers}
use Rattle.s3_compile.proofs.marking.level_shapes.Given as goal

abbrev pub invariant-loop-line : goal.invariant-loop-line
invariant-loop-line l = Covers same_level l.table (shapes_from (drop l.line-index l.lines)) (shapes_from l.lines)
