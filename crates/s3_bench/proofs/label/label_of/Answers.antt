use Rattle.std.proofs.Common.{refl}
use Rattle.s3_bench.proofs.WholeStore.{run_room, run_index, run_stored}
use Rattle.s3_bench.proofs.label.label_of.Goals as goal

pub returns-clause-room : goal.returns-clause-room
returns-clause-room c = run_room _ c.of-2.ensures refl c.requires.few c.requires.counted

pub returns-clause-index : goal.returns-clause-index
returns-clause-index c = λ few. run_index _ c.of-2.ensures refl few refl refl

pub returns-clause-stored : goal.returns-clause-stored
returns-clause-stored c = λ contents few. run_stored _ contents c.of-2.ensures few
