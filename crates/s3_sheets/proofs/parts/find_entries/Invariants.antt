use Rattle.s3_sheets.proofs.PartLemmas.{FoundSoFar}
use Rattle.s3_sheets.proofs.parts.find_entries.Given as goal

abbrev pub invariant-loop-place : goal.invariant-loop-place
invariant-loop-place l = FoundSoFar l.from l.cards l.place l.found.items l.progress
