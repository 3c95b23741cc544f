use Rattle.std.proofs.Common.{refl}
use Rattle.s3_keyed.specs.KeyOrder.{number_of, key_order}
use Rattle.s3_keyed.specs.Index.{keys_of}
use Rattle.s3_keyed.specs.Calls.{nth_by_key, with_added}
use Rattle.s3_slots.specs.Slots.{standing}
use Rattle.s3_job_files.specs.Requests.{served}
use Rattle.s3_job_files.proofs.laws.added_records_are_found_but_not_read.Goals as goal

pub returns-clause-first : goal.returns-clause-first
unfolding number_of key_order keys_of nth_by_key with_added standing served
returns-clause-first c = refl

pub returns-clause-second : goal.returns-clause-second
unfolding number_of key_order keys_of nth_by_key with_added standing served
returns-clause-second c = refl

pub returns-clause-by_key : goal.returns-clause-by_key
unfolding number_of key_order keys_of nth_by_key with_added standing served
returns-clause-by_key c = refl

pub returns-clause-read : goal.returns-clause-read
unfolding number_of key_order keys_of nth_by_key with_added standing served
returns-clause-read c = refl

pub returns-clause-ended : goal.returns-clause-ended
unfolding number_of key_order keys_of nth_by_key with_added standing served
returns-clause-ended c = refl

pub returns-clause-chained : goal.returns-clause-chained
unfolding number_of key_order keys_of nth_by_key with_added standing served
returns-clause-chained c = refl

pub returns-clause-of_master : goal.returns-clause-of_master
unfolding number_of key_order keys_of nth_by_key with_added standing served
returns-clause-of_master c = refl

pub returns-clause-no_file : goal.returns-clause-no_file
unfolding number_of key_order keys_of nth_by_key with_added standing served
returns-clause-no_file c = refl

pub returns-clause-no_request : goal.returns-clause-no_request
unfolding number_of key_order keys_of nth_by_key with_added standing served
returns-clause-no_request c = refl
