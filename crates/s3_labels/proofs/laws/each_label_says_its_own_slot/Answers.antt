use Rattle.std.proofs.Common.{refl}
use Rattle.s3_cards.specs.Names.{is_word}
use Rattle.s3_store.specs.Bytes.{sector_bytes}
use Rattle.s3_slots.specs.Slots.{slots_of, standing}
use Rattle.s3_labels.specs.Inner.Labelled.{slots_alone}
use Rattle.s3_labels.proofs.laws.each_label_says_its_own_slot.Goals as goal

pub returns-clause-sound : goal.returns-clause-sound
unfolding slots_alone slots_of sector_bytes is_word standing
returns-clause-sound c = refl

pub returns-clause-too_many : goal.returns-clause-too_many
unfolding slots_alone slots_of sector_bytes is_word standing
returns-clause-too_many c = refl

pub returns-clause-elsewhere : goal.returns-clause-elsewhere
unfolding slots_alone slots_of sector_bytes is_word standing
returns-clause-elsewhere c = refl

pub returns-clause-marked : goal.returns-clause-marked
unfolding slots_alone slots_of sector_bytes is_word standing
returns-clause-marked c = refl

pub returns-clause-entangled : goal.returns-clause-entangled
unfolding slots_alone slots_of sector_bytes is_word standing
returns-clause-entangled c = refl

pub returns-clause-judged : goal.returns-clause-judged
unfolding slots_alone slots_of sector_bytes is_word standing
returns-clause-judged c = refl
