use Rattle.std.proofs.Common.{refl}
use Rattle.s3_slots.specs.Slots.{slots_of}
use Rattle.s3_store.specs.Bytes.{sector_bytes}
use Rattle.s3_cards.specs.Names.{is_word}
use Rattle.s3_slots.specs.Slots.{standing}
use Rattle.s3_labels.proofs.Migrated.{migrated_behind}
use Rattle.s3_labels.proofs.laws.files_stay_where_a_pack_is_migrated.Goals as goal

pub returns-clause-behind : goal.returns-clause-behind
returns-clause-behind c = migrated_behind

pub returns-clause-format : goal.returns-clause-format
returns-clause-format c = refl

pub returns-clause-slot : goal.returns-clause-slot
unfolding slots_of sector_bytes is_word standing
returns-clause-slot c = refl

pub returns-clause-sound : goal.returns-clause-sound
unfolding slots_of sector_bytes is_word standing
returns-clause-sound c = refl
