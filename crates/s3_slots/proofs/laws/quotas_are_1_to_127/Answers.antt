use Rattle.std.proofs.Common.{refl}
use Rattle.s3_store.specs.Bytes.{sector_bytes}
use Rattle.s3_slots.proofs.laws.quotas_are_1_to_127.Goals as goal

pub returns-clause-most : goal.returns-clause-most
unfolding sector_bytes
returns-clause-most c = refl

pub returns-clause-none_for_two : goal.returns-clause-none_for_two
unfolding sector_bytes
returns-clause-none_for_two c = refl

pub returns-clause-too_many : goal.returns-clause-too_many
unfolding sector_bytes
returns-clause-too_many c = refl

pub returns-clause-none_for_one : goal.returns-clause-none_for_one
unfolding sector_bytes
returns-clause-none_for_one c = refl
