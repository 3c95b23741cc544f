use Rattle.s3_book.proofs.ReadingLemmas.{none_begins, none_ends, none_quotes}
use Rattle.s3_book.proofs.laws.values_have_no_tags.Goals as goal

pub returns : goal.returns
returns c = record { begins = none_begins; ends = none_ends; quotes = none_quotes }
