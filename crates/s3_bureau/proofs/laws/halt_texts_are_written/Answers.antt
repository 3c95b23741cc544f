use Rattle.std.proofs.Common.{refl}
use Rattle.std.specs.Fmt.{digits}
use Rattle.s3_bureau.specs.Texts.{halt_line, halt_lines, detail_line}
use Rattle.s3_bureau.proofs.laws.halt_texts_are_written.Goals as goal

pub returns : goal.returns
unfolding halt_line halt_lines detail_line digits
returns c = record { refused = refl; faulty = refl; replies = refl }
