use Rattle.s3_match.proofs.ReadLemmas.{read_whole, read_next, read_none}
use Rattle.s3_match.proofs.laws.files_are_read_in_turn.Goals as goal

pub returns-clause-whole : goal.returns-clause-whole
returns-clause-whole c = read_whole

pub returns-clause-next : goal.returns-clause-next
returns-clause-next c = read_next

pub returns-clause-none : goal.returns-clause-none
returns-clause-none c = read_none
