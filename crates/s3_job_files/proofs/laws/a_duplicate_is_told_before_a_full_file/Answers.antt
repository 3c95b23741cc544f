use Rattle.std.proofs.Common.{refl}
use Rattle.s3_keyed.specs.KeyOrder.{number_of}
use Rattle.s3_keyed.specs.Index.{keys_of}
use Rattle.s3_keyed.specs.Calls.{with_added, with_loaded}
use Rattle.s3_slots.specs.Slots.{standing}
use Rattle.s3_job_files.specs.Requests.{served}
use Rattle.s3_job_files.proofs.laws.a_duplicate_is_told_before_a_full_file.Goals as goal

pub returns-clause-duplicate : goal.returns-clause-duplicate
unfolding number_of keys_of with_added with_loaded standing served
returns-clause-duplicate c = refl

pub returns-clause-full : goal.returns-clause-full
unfolding number_of keys_of with_added with_loaded standing served
returns-clause-full c = refl

pub returns-clause-not_ascending : goal.returns-clause-not_ascending
unfolding number_of keys_of with_added with_loaded standing served
returns-clause-not_ascending c = refl

pub returns-clause-full_load : goal.returns-clause-full_load
unfolding number_of keys_of with_added with_loaded standing served
returns-clause-full_load c = refl

pub returns-clause-loaded : goal.returns-clause-loaded
unfolding number_of keys_of with_added with_loaded standing served
returns-clause-loaded c = refl

pub returns-clause-third : goal.returns-clause-third
unfolding number_of keys_of with_added with_loaded standing served
returns-clause-third c = refl

pub returns-clause-second : goal.returns-clause-second
unfolding number_of keys_of with_added with_loaded standing served
returns-clause-second c = refl
