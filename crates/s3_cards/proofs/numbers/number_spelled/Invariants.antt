use Rattle.s3_cards.proofs.NumberLemmas.{NumberSoFar}
use Rattle.s3_cards.proofs.numbers.number_spelled.Given as goal

abbrev pub invariant-loop-code : goal.invariant-loop-code
invariant-loop-code l = NumberSoFar l.zero l.digits l.code-index l.number
