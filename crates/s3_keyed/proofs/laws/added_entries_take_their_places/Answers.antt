use Rattle.std.proofs.Common.{refl}
use Rattle.s3_keyed.specs.KeyOrder.{number_of, key_order}
use Rattle.s3_keyed.specs.Index.{entry_at, index_in}
use Rattle.s3_keyed.specs.Calls.{nth_by_key}
use Rattle.s3_keyed.proofs.laws.added_entries_take_their_places.Goals as goal

pub returns-clause-merged : goal.returns-clause-merged
unfolding number_of key_order entry_at index_in nth_by_key
returns-clause-merged c = refl

pub returns-clause-order : goal.returns-clause-order
unfolding number_of key_order entry_at index_in nth_by_key
returns-clause-order c = refl

pub returns-clause-third : goal.returns-clause-third
unfolding number_of key_order entry_at index_in nth_by_key
returns-clause-third c = refl

pub returns-clause-no_third : goal.returns-clause-no_third
unfolding number_of key_order entry_at index_in nth_by_key
returns-clause-no_third c = refl
