use Rattle.s3_sheets.proofs.Rows.{sources_found, files_found, fields_defined}
use Rattle.s3_sheets.proofs.laws.sources_get_their_pairs.Goals as goal

pub returns-clause-measured : goal.returns-clause-measured
returns-clause-measured c = sources_found

pub returns-clause-files : goal.returns-clause-files
returns-clause-files c = files_found

pub returns-clause-defined : goal.returns-clause-defined
returns-clause-defined c = fields_defined
