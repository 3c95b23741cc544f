use Rattle.s3_cells.proofs.CellLaws.{cell_back, read_tidy}
use Rattle.s3_cells.proofs.laws.a_cell_reads_back.Goals as goal

pub returns-clause-back : goal.returns-clause-back
returns-clause-back c = cell_back

pub returns-clause-tidy : goal.returns-clause-tidy
returns-clause-tidy c = read_tidy
