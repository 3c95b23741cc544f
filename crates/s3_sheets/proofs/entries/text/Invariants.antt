use Rattle.s3_sheets.proofs.TextLemmas.{TextSoFar}
use Rattle.s3_sheets.proofs.entries.text.Given as goal

abbrev pub invariant-loop-place : goal.invariant-loop-place
invariant-loop-place l = TextSoFar l.codes l.place l.text l.ended
