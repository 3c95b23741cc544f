use Rattle.std.proofs.Common.{refl}
use Rattle.s3_keyed.specs.KeyOrder.{number_of, key_order}
use Rattle.s3_keyed.specs.Index.{keys_of}
use Rattle.s3_keyed.specs.Calls.{nth_by_key, with_updated}
use Rattle.s3_slots.specs.Slots.{standing}
use Rattle.s3_job_files.specs.Requests.{served}
use Rattle.s3_job_files.proofs.laws.an_update_keeps_the_key.Goals as goal

pub returns-clause-changed : goal.returns-clause-changed
unfolding number_of key_order keys_of nth_by_key with_updated standing served
returns-clause-changed c = refl

pub returns-clause-key : goal.returns-clause-key
unfolding number_of key_order keys_of nth_by_key with_updated standing served
returns-clause-key c = refl

pub returns-clause-of_first : goal.returns-clause-of_first
unfolding number_of key_order keys_of nth_by_key with_updated standing served
returns-clause-of_first c = refl

pub returns-clause-of_chained : goal.returns-clause-of_chained
unfolding number_of key_order keys_of nth_by_key with_updated standing served
returns-clause-of_chained c = refl

pub returns-clause-after_miss : goal.returns-clause-after_miss
unfolding number_of key_order keys_of nth_by_key with_updated standing served
returns-clause-after_miss c = refl
