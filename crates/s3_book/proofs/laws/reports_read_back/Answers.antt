use Rattle.s3_book.proofs.ReadingLemmas.{read_marked}
use Rattle.s3_book.proofs.laws.reports_read_back.Goals as goal

pub returns : goal.returns
returns c = read_marked
