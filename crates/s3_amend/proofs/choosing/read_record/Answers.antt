use Rattle.s3_files.proofs.Rooms.{of_pack_room}
use Rattle.s3_amend.proofs.choosing.read_record.Goals as goal

pub of-file-requires : goal.of-file-requires
of-file-requires c = of_pack_room _ c.args.label.now c.requires.on_pack
