use Rattle.s3_labels.proofs.NewFiles.{new_header_is, new_areas_are, new_masters_stand, new_files_are}
use Rattle.s3_labels.proofs.laws.a_new_pack_has_an_old_ones_files.Goals as goal

pub returns-clause-header : goal.returns-clause-header
returns-clause-header c = new_header_is

pub returns-clause-slots : goal.returns-clause-slots
returns-clause-slots c = new_areas_are

pub returns-clause-masters : goal.returns-clause-masters
returns-clause-masters c = new_masters_stand

pub returns-clause-files : goal.returns-clause-files
returns-clause-files c = new_files_are
