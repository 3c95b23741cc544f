use Rattle.s3_bureau.proofs.MigratedTexts.{both_kept, run_kept, texts_kept}
use Rattle.s3_bureau.proofs.laws.a_migrated_pack_gives_the_same_texts.Goals as goal

pub returns-clause-worlds : goal.returns-clause-worlds
returns-clause-worlds c = λ old new header level deck actions mounts is. run_kept old new header mounts is level deck actions

pub returns-clause-level : goal.returns-clause-level
returns-clause-level c = λ old new header level deck actions mounts is. texts_kept old new header mounts is level deck actions

pub returns-clause-run : goal.returns-clause-run
returns-clause-run c = λ old new deck1 deck2 script header entries mounts is. both_kept old new header mounts is deck1 deck2 script entries
