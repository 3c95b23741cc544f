use Rattle.s3_bureau.proofs.MigratedRecords.{migrated_runs_keep, migrated_untangled}
use Rattle.s3_bureau.proofs.laws.a_migrated_pack_keeps_the_records.Goals as goal

pub returns-clause-untangled : goal.returns-clause-untangled
returns-clause-untangled c = migrated_untangled

pub returns-clause-runs : goal.returns-clause-runs
returns-clause-runs c = migrated_runs_keep
