use Rattle.s3_compile.proofs.ReachLemmas.{Level}
use Rattle.s3_compile.proofs.reaching.reaching.Given as goal

abbrev pub invariant-loop-most : goal.invariant-loop-most
invariant-loop-most l = Level l.calls l._most l.to l.reaching l.level.items
