use Rattle.s3_unload.proofs.TableLaws.{table_reads}
use Rattle.s3_unload.proofs.laws.a_table_reads_as_its_rows.Goals as goal

pub returns : goal.returns
returns c = table_reads
