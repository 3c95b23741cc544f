use Rattle.s3_solo.proofs.MigratedStarts.{migrated_answers, migrated_run, start_same}
use Rattle.s3_solo.proofs.laws.a_migrated_pack_gives_the_same_run.Goals as goal

pub returns-clause-start : goal.returns-clause-start
returns-clause-start c = λ old new header level deck mounts is. start_same old new header mounts is level deck

pub returns-clause-run : goal.returns-clause-run
returns-clause-run c = migrated_run

pub returns-clause-answers : goal.returns-clause-answers
returns-clause-answers c = migrated_answers
