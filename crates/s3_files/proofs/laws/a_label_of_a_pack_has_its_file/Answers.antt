use Rattle.s3_files.proofs.Rooms.{of_pack_room, of_pack_stored, of_pack_full}
use Rattle.s3_files.proofs.laws.a_label_of_a_pack_has_its_file.Goals as goal

pub returns-clause-room : goal.returns-clause-room
returns-clause-room c = λ sectors label is. of_pack_room sectors label is

pub returns-clause-stored : goal.returns-clause-stored
returns-clause-stored c = λ contents label is. of_pack_stored contents label is

pub returns-clause-full : goal.returns-clause-full
returns-clause-full c = λ sectors label is direct. of_pack_full sectors label is direct
