use Rattle.std.proofs.Common.{refl}
use Rattle.s3_keyed.specs.KeyOrder.{number_of}
use Rattle.s3_keyed.specs.Index.{keys_of}
use Rattle.s3_keyed.specs.Calls.{with_added, with_loaded, with_updated}
use Rattle.s3_keyed.proofs.laws.a_full_file_tells_a_duplicate_first.Goals as goal

pub returns-clause-duplicate : goal.returns-clause-duplicate
unfolding number_of keys_of with_added with_loaded with_updated
returns-clause-duplicate c = refl

pub returns-clause-full : goal.returns-clause-full
unfolding number_of keys_of with_added with_loaded with_updated
returns-clause-full c = refl

pub returns-clause-added : goal.returns-clause-added
unfolding number_of keys_of with_added with_loaded with_updated
returns-clause-added c = refl

pub returns-clause-not_ascending : goal.returns-clause-not_ascending
unfolding number_of keys_of with_added with_loaded with_updated
returns-clause-not_ascending c = refl

pub returns-clause-full_load : goal.returns-clause-full_load
unfolding number_of keys_of with_added with_loaded with_updated
returns-clause-full_load c = refl

pub returns-clause-changed : goal.returns-clause-changed
unfolding number_of keys_of with_added with_loaded with_updated
returns-clause-changed c = refl

pub returns-clause-no_record : goal.returns-clause-no_record
unfolding number_of keys_of with_added with_loaded with_updated
returns-clause-no_record c = refl
