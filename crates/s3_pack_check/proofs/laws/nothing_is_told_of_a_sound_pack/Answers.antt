use Rattle.s3_pack_check.proofs.Told.{sound_is_empty, empty_is_sound}
use Rattle.s3_pack_check.proofs.laws.nothing_is_told_of_a_sound_pack.Goals as goal

pub returns-clause-sound : goal.returns-clause-sound
returns-clause-sound c = λ areas contents sound. sound_is_empty areas contents sound

pub returns-clause-nothing : goal.returns-clause-nothing
returns-clause-nothing c = λ areas contents nothing. empty_is_sound areas contents nothing
