use Rattle.s3_files.proofs.Rooms.{of_pack_room}
use Rattle.s3_keyed.proofs.Indexes.{of_pack_index}
use Rattle.s3_unload.proofs.ordered.open_keyed.Goals as goal

pub check-requires-clause-room : goal.check-requires-clause-room
check-requires-clause-room c = of_pack_room _ _ c.requires.on_pack

pub check-requires-clause-index : goal.check-requires-clause-index
check-requires-clause-index c = of_pack_index _ _ c.requires.on_pack c.requires.indexed
