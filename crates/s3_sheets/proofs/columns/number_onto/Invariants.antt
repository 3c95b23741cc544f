use Rattle.s3_sheets.proofs.NumberLemmas.{NumberSoFar}
use Rattle.s3_sheets.proofs.columns.number_onto.Given as goal

abbrev pub invariant-loop-code : goal.invariant-loop-code
invariant-loop-code l = NumberSoFar l.start l.digits l.code-index l.number
