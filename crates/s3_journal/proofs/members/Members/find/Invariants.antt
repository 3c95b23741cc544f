-- What was found so far is what the members so far have.
use Rattle.std.proofs.Common.{take}
use Rattle.json.specs.Value.{members_view}
use Rattle.s3_journal.specs.Inner.Members.{values_of}
use Rattle.s3_journal.specs.Inner.Views.{IsFound}
use Rattle.s3_journal.proofs.members.Members.find.Given as goal

abbrev pub invariant-loop-member : goal.invariant-loop-member
invariant-loop-member l = IsFound (values_of l.name (members_view (take l.member-index l.fn.self.list.now))) l.found
