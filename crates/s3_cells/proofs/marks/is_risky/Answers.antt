use Rattle.std.proofs.Common.{get_or}
use Rattle.std.proofs.lemmas.Bool.{ne_eqb}
use Rattle.s3_cells.proofs.MarkLemmas.{first_other}
use Rattle.s3_cells.proofs.marks.is_risky.Goals as goal

pub returns-then-byte-ne39 : goal.returns-then-byte-ne39
returns-then-byte-ne39 c =
    first_other c.args.text.now c.loop-byte.byte-index c.is_formula_start.result c.loop-byte-test.true (ne_eqb (get_or c.args.text.now c.loop-byte.byte-index 0) 39 c.if-byte-ne39.true) c.loop-byte.invariant c.is_formula_start.ensures
