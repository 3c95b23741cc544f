use Rattle.std.proofs.Common.{sym, ◌∙◌}
use Rattle.s3_journal.proofs.MemberLemmas.{found_further, found_other}
use Rattle.s3_journal.proofs.members.Members.find.Goals as goal
use Rattle.s3_journal.proofs.members.Members.find.Goals.{then-eq, else-eq}

pub loop-member-preserved : goal.loop-member-preserved
loop-member-preserved c = elim c.if-eq.branch [
  | then-eq w ↦ found_further c.args.name.now c.args.self.list.now c.loop-member.member-index c.member-item.result c.loop-member-test.true c.member-item.is c.if-eq.found w.and-found.result (sym c.eq.ensures ∙ w.if-eq.true) w.found-is (w.and-found.ensures _ c.loop-member.invariant)
  | else-eq w ↦ found_other c.args.name.now c.args.self.list.now c.loop-member.member-index c.member-item.result c.loop-member-test.true c.member-item.is c.if-eq.found c.loop-member.found (sym c.eq.ensures ∙ w.if-eq.false) w.found-is c.loop-member.invariant
]
