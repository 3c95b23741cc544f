-- The members so far are written.
use Rattle.std.proofs.Common.{take}
use Rattle.s3_journal.specs.Inner.Written.{Appended, pairs_in, pairs_tokens}
use Rattle.s3_journal.proofs.writing.Line.members.Given as goal

abbrev pub invariant-loop-member : goal.invariant-loop-member
invariant-loop-member l = Appended l.fn.self.json l.self.json (pairs_tokens (pairs_in (take l.member-index l.parts)))
