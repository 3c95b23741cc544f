use Rattle.std.proofs.Common.{refl}
use Rattle.s3_slots.specs.Inner.Labels.{label_bytes}
use Rattle.s3_slots.specs.Making.{new_label}
use Rattle.s3_slots.specs.Making.{greatest_capacity}
use Rattle.s3_slots.specs.Labels.{sectors_of}
use Rattle.s3_slots.proofs.laws.a_label_is_64_bytes.Goals as goal

pub returns-clause-one : goal.returns-clause-one
unfolding label_bytes new_label greatest_capacity sectors_of
returns-clause-one c = refl

pub returns-clause-first_extent : goal.returns-clause-first_extent
unfolding label_bytes new_label greatest_capacity sectors_of
returns-clause-first_extent c = refl

pub returns-clause-second_extent : goal.returns-clause-second_extent
unfolding label_bytes new_label greatest_capacity sectors_of
returns-clause-second_extent c = refl

pub returns-clause-record_193 : goal.returns-clause-record_193
unfolding label_bytes new_label greatest_capacity sectors_of
returns-clause-record_193 c = refl
