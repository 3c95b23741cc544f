use Rattle.std.proofs.Common.{refl}
use Rattle.std.specs.Fmt.{digits}
use Rattle.s3_cards.specs.Codes.{code_page}
use Rattle.s3_bureau.specs.Texts.{report_line}
use Rattle.s3_bureau.proofs.laws.reports_are_written.Goals as goal

pub returns : goal.returns
unfolding report_line code_page digits
returns c = record { lines = refl; blank = refl; unknown = refl }
