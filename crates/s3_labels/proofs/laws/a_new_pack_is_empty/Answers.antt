use Rattle.s3_labels.proofs.NewFiles.{empty_mounted, empty_areas}
use Rattle.s3_labels.proofs.laws.a_new_pack_is_empty.Goals as goal

pub returns-clause-header : goal.returns-clause-header
returns-clause-header c = empty_mounted

pub returns-clause-slots : goal.returns-clause-slots
returns-clause-slots c = empty_areas
