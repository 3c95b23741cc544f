use Rattle.s3_journal.proofs.WritingLemmas.{members_at, members_end, nothing}
use Rattle.s3_journal.proofs.writing.Line.members.Goals as goal

pub loop-member-init : goal.loop-member-init
loop-member-init c = nothing _

pub loop-member-preserved : goal.loop-member-preserved
loop-member-preserved c = members_at c.args.parts.now c.loop-member.member-index _ c.loop-member-test.true c.loop-member.invariant c.in_ok-member.ensures

pub returns : goal.returns
returns c = members_end c.args.parts.now c.loop-member.member-index c.loop-member-test.false c.loop-member.invariant
