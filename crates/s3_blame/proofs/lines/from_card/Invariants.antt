use Rattle.s3_blame.proofs.OwnLemmas.{AreBefore}
use Rattle.s3_blame.proofs.lines.from_card.Given as goal

abbrev pub invariant-loop-place : goal.invariant-loop-place
invariant-loop-place l = AreBefore l.fn.card l.fn.told l.place
