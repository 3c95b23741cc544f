use Rattle.s3_match.proofs.AgainLemmas.{IsBeginning}
use Rattle.s3_match.proofs.reading.Reading.begin_again.Given as goal

abbrev pub invariant-loop-place : goal.invariant-loop-place
invariant-loop-place l = IsBeginning l.program l.switches l.place l.fn.self l.self
