use Rattle.s3_pack_care.proofs.Ranks.{ranked, turned_round}
use Rattle.s3_pack_care.proofs.rank_laws.ranks_are_in_the_order_of_numbers.Goals as goal

pub returns-clause-numbers : goal.returns-clause-numbers
returns-clause-numbers c = λ a b few small. ranked a b few small

pub returns-clause-descending : goal.returns-clause-descending
returns-clause-descending c = λ greatest a b few small. turned_round greatest a b few small
