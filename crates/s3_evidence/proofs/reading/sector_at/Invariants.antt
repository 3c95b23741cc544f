use Rattle.s3_evidence.proofs.reading.sector_at.Given as goal

abbrev pub invariant-loop-run : goal.invariant-loop-run
invariant-loop-run l = Unit {0}
