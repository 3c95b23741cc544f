use Rattle.s3_files.proofs.Rooms.{of_pack_room, of_pack_stored}
use Rattle.s3_keyed.proofs.Indexes.{of_pack_index}
use Rattle.s3_pack_check.proofs.checking.index_cause.Goals as goal

pub check-requires-clause-room : goal.check-requires-clause-room
check-requires-clause-room g c = of_pack_room _ c.args.label.now c.requires.on_pack

pub check-requires-clause-index : goal.check-requires-clause-index
check-requires-clause-index g c = of_pack_index _ c.args.label.now c.requires.on_pack c.requires.indexed

pub check-requires-clause-stored : goal.check-requires-clause-stored
check-requires-clause-stored g c = of_pack_stored (g.P.Sectors.state c.args.pool.now).contents c.args.label.now c.requires.on_pack
