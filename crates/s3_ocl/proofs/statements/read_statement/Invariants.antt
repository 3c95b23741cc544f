use Rattle.std.proofs.Common.{◌-◌, length, get_or, []}
use Rattle.s3_ocl.specs.Cards.{second_word}
use Rattle.s3_ocl.proofs.PieceLemmas.{CardsSoFar}
use Rattle.s3_ocl.proofs.statements.read_statement.Given as goal

abbrev pub invariant-loop-next : goal.invariant-loop-next
invariant-loop-next l = CardsSoFar l.verb l.cards l.place l.end (second_word (get_or l.cards l.place [])) l.text l.pieces.items

abbrev pub decreases-loop-next : goal.decreases-loop-next
decreases-loop-next l = length l.cards - l.end
