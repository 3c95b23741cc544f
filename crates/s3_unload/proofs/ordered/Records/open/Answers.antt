use Rattle.s3_files.proofs.Rooms.{of_pack_room}
use Rattle.s3_unload.proofs.ordered.Records.open.Goals as goal

pub of-requires : goal.of-requires
of-requires c = of_pack_room _ _ c.requires
