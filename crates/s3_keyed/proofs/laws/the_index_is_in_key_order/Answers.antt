use Rattle.std.proofs.Common.{refl}
use Rattle.s3_files.specs.Records.{records_in}
use Rattle.s3_keyed.specs.KeyOrder.{number_of, key_order, is_good_index}
use Rattle.s3_keyed.specs.Index.{keys_of, entry_at, index_in}
use Rattle.s3_keyed.proofs.laws.the_index_is_in_key_order.Goals as goal

pub returns-clause-entries : goal.returns-clause-entries
unfolding number_of key_order is_good_index keys_of entry_at index_in records_in
returns-clause-entries c = refl

pub returns-clause-good : goal.returns-clause-good
unfolding number_of key_order is_good_index keys_of entry_at index_in records_in
returns-clause-good c = refl

pub returns-clause-keys : goal.returns-clause-keys
unfolding number_of key_order is_good_index keys_of entry_at index_in records_in
returns-clause-keys c = refl

pub returns-clause-file_order : goal.returns-clause-file_order
unfolding number_of key_order is_good_index keys_of entry_at index_in records_in
returns-clause-file_order c = refl

pub returns-clause-twice : goal.returns-clause-twice
unfolding number_of key_order is_good_index keys_of entry_at index_in records_in
returns-clause-twice c = refl

pub returns-clause-zeros : goal.returns-clause-zeros
unfolding number_of key_order is_good_index keys_of entry_at index_in records_in
returns-clause-zeros c = refl
