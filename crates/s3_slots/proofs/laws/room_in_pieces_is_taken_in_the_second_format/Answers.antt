use Rattle.std.proofs.Common.{refl}
use Rattle.s3_slots.specs.Making.{made}
use Rattle.s3_slots.specs.Slots.{standing}
use Rattle.s3_slots.specs.Placement.{placed}
use Rattle.s3_slots.specs.Placement.{lowest_place}
use Rattle.s3_slots.specs.Placement.{free_stretches}
use Rattle.s3_slots.specs.Making.{new_label}
use Rattle.s3_slots.specs.Making.{greatest_capacity}
use Rattle.s3_cards.specs.Names.{is_word}
use Rattle.s3_slots.specs.Making.{dropped}
use Rattle.s3_slots.proofs.laws.room_in_pieces_is_taken_in_the_second_format.Goals as goal

pub returns-clause-first : goal.returns-clause-first
unfolding made standing placed lowest_place free_stretches new_label greatest_capacity is_word dropped
returns-clause-first c = refl

pub returns-clause-second : goal.returns-clause-second
unfolding made standing placed lowest_place free_stretches new_label greatest_capacity is_word dropped
returns-clause-second c = refl

pub returns-clause-too_many : goal.returns-clause-too_many
unfolding made standing placed lowest_place free_stretches new_label greatest_capacity is_word dropped
returns-clause-too_many c = refl
