use Rattle.s3_match.proofs.HeldLemmas.{AreForgotten}
use Rattle.s3_match.proofs.held.HeldFields.forget.Given as goal

abbrev pub invariant-loop-index : goal.invariant-loop-index
invariant-loop-index l = AreForgotten l.index l.self-inside.fields.items
