use Rattle.s3_labels.proofs.MigratedPacks.{migrated_mounted, migrated_areas, migrated_files}
use Rattle.s3_labels.proofs.laws.a_migrated_pack_keeps_its_files.Goals as goal

pub returns-clause-header : goal.returns-clause-header
returns-clause-header c = migrated_mounted

pub returns-clause-slots : goal.returns-clause-slots
returns-clause-slots c = migrated_areas

pub returns-clause-files : goal.returns-clause-files
returns-clause-files c = migrated_files
