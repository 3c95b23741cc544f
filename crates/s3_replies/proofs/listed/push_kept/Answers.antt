-- What is kept of one more byte.
use Rattle.std.proofs.Common.{rules, arith}
use Rattle.s3_replies.proofs.ListLemmas.{all_kept, none_kept}
use Rattle.s3_replies.proofs.listed.push_kept.Goals as goal

pub returns-in_ok-push : goal.returns-in_ok-push
returns-in_ok-push c = λ short. all_kept _ _ _ (omega arith) (search rules)

pub returns-else-len-lt-LONGEST : goal.returns-else-len-lt-LONGEST
returns-else-len-lt-LONGEST c = λ short. none_kept _ _ (omega arith) short
