use Rattle.std.proofs.Common.{refl}
use Rattle.s3_slots.specs.Making.{made}
use Rattle.s3_slots.specs.Slots.{standing}
use Rattle.s3_slots.specs.Placement.{placed}
use Rattle.s3_slots.specs.Placement.{lowest_place}
use Rattle.s3_slots.specs.Placement.{free_stretches}
use Rattle.s3_slots.specs.Making.{new_label}
use Rattle.s3_slots.specs.Making.{greatest_capacity}
use Rattle.s3_cards.specs.Names.{is_word}
use Rattle.s3_slots.specs.Making.{dropped}
use Rattle.s3_slots.proofs.laws.files_take_whole_tracks.Goals as goal

pub returns-clause-fills : goal.returns-clause-fills
unfolding made standing placed lowest_place free_stretches new_label greatest_capacity is_word dropped
returns-clause-fills c = refl

pub returns-clause-too_big : goal.returns-clause-too_big
unfolding made standing placed lowest_place free_stretches new_label greatest_capacity is_word dropped
returns-clause-too_big c = refl

pub returns-clause-indexed : goal.returns-clause-indexed
unfolding made standing placed lowest_place free_stretches new_label greatest_capacity is_word dropped
returns-clause-indexed c = refl

pub returns-clause-planned : goal.returns-clause-planned
unfolding made standing placed lowest_place free_stretches new_label greatest_capacity is_word dropped
returns-clause-planned c = refl
