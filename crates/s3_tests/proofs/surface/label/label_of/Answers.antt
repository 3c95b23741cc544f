use Rattle.std.proofs.Common.{refl}
use Rattle.s3_tests.proofs.SmallFile.{run_room}
use Rattle.s3_tests.proofs.surface.label.label_of.Goals as goal

pub returns-clause-room : goal.returns-clause-room
returns-clause-room c = run_room _ c.of-2.ensures refl refl c.requires
