-- The next line of a list.
use Rattle.std.proofs.Common.{arith, rules}
use Rattle.s3_replies.proofs.ListLemmas.{goes_on, line_said, list_over, one_more_byte}
use Rattle.s3_replies.proofs.listed.next_listed.Goals as goal

-- src/listed.rt:42:37
pub returns-in-Byte-eq10 : goal.returns-in-Byte-eq10
returns-in-Byte-eq10 g c = line_said _ _ _ _ _ _ _ _ c.loop-byte.invariant c.in-Byte-eq10.ensures (search rules) (search rules)

-- src/listed.rt:47:32
pub returns-in-NoByte : goal.returns-in-NoByte
returns-in-NoByte g c = list_over _ _ _ _ _ _ _ c.loop-byte.invariant c.in-NoByte.ensures (search rules)

-- src/listed.rt:40:5
pub loop-byte-preserved : goal.loop-byte-preserved
loop-byte-preserved g c = one_more_byte _ _ _ _ _ _ _ _ c.loop-byte.invariant c.in-Byte.ensures (search rules) (search rules)

-- src/listed.rt:59:8
pub returns : goal.returns
returns g c = goes_on _ _ _ _ _ c.loop-byte.invariant (omega arith)
