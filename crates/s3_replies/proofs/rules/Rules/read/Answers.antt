-- A text of rules, line by line.
use Rattle.std.proofs.Common.{rules}
use Rattle.s3_replies.proofs.ReadingLemmas.{none_read, one_more}
use Rattle.s3_replies.proofs.rules.Rules.read.Goals as goal

pub loop-line-init : goal.loop-line-init
loop-line-init c = none_read _ _ _ (search rules) (search rules)

pub loop-line-preserved : goal.loop-line-preserved
loop-line-preserved c = one_more _ _ _ _ _ _ _ _ _ c.loop-line.invariant c.in-Some.ensures.line c.in-Some.ensures.shorter (search rules)
