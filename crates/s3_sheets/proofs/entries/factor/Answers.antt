use Rattle.s3_sheets.proofs.EntryLemmas.{text_factor}
use Rattle.s3_sheets.proofs.entries.factor.Goals as goal

pub returns-in-Some : goal.returns-in-Some
returns-in-Some c = text_factor _ _ c.in-Some.text _ c.in-Some.ensures c.requires.few c.text_literal.ensures
