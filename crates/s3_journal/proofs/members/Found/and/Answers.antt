use Rattle.s3_journal.proofs.MemberLemmas.{found_several, one_or_several}
use Rattle.s3_journal.proofs.members.Found.and.Goals as goal

pub returns-in-One : goal.returns-in-One
returns-in-One c = λ values is. found_several c.args.self values _ (one_or_several c.args.self c.in-One.is) is
