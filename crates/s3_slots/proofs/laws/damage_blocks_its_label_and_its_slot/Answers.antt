use Rattle.std.proofs.Common.{refl}
use Rattle.s3_slots.specs.Slots.{slots_of}
use Rattle.s3_store.specs.Bytes.{sector_bytes}
use Rattle.s3_cards.specs.Names.{is_word}
use Rattle.s3_slots.specs.Slots.{standing}
use Rattle.s3_slots.specs.Making.{made}
use Rattle.s3_slots.specs.Placement.{placed}
use Rattle.s3_slots.specs.Placement.{lowest_place}
use Rattle.s3_slots.specs.Placement.{free_stretches}
use Rattle.s3_slots.specs.Making.{new_label}
use Rattle.s3_slots.specs.Making.{greatest_capacity}
use Rattle.s3_slots.specs.Making.{dropped}
use Rattle.s3_slots.proofs.laws.damage_blocks_its_label_and_its_slot.Goals as goal

pub returns-clause-no_slot : goal.returns-clause-no_slot
unfolding slots_of sector_bytes is_word standing made placed lowest_place free_stretches new_label greatest_capacity dropped
returns-clause-no_slot c = refl

pub returns-clause-not_made : goal.returns-clause-not_made
unfolding slots_of sector_bytes is_word standing made placed lowest_place free_stretches new_label greatest_capacity dropped
returns-clause-not_made c = refl

pub returns-clause-entangled : goal.returns-clause-entangled
unfolding slots_of sector_bytes is_word standing made placed lowest_place free_stretches new_label greatest_capacity dropped
returns-clause-entangled c = refl

pub returns-clause-still : goal.returns-clause-still
unfolding slots_of sector_bytes is_word standing made placed lowest_place free_stretches new_label greatest_capacity dropped
returns-clause-still c = refl

pub returns-clause-alone : goal.returns-clause-alone
unfolding slots_of sector_bytes is_word standing made placed lowest_place free_stretches new_label greatest_capacity dropped
returns-clause-alone c = refl

pub returns-clause-too_many : goal.returns-clause-too_many
unfolding slots_of sector_bytes is_word standing made placed lowest_place free_stretches new_label greatest_capacity dropped
returns-clause-too_many c = refl

pub returns-clause-elsewhere : goal.returns-clause-elsewhere
unfolding slots_of sector_bytes is_word standing made placed lowest_place free_stretches new_label greatest_capacity dropped
returns-clause-elsewhere c = refl
