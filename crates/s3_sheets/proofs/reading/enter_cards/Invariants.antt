use Rattle.s3_sheets.proofs.ReadingLemmas.{ReadSoFar}
use Rattle.s3_sheets.proofs.reading.enter_cards.Given as goal

abbrev pub invariant-loop-place : goal.invariant-loop-place
invariant-loop-place l = ReadSoFar l.from l.cards l.place l.found.items l.lines.items l.progress
