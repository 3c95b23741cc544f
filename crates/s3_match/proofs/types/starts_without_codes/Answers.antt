use Rattle.s3_match.proofs.CodeLemmas.{record_holds}
use Rattle.s3_match.proofs.types.starts_without_codes.Goals as goal

pub returns-in-Record : goal.returns-in-Record
returns-in-Record c = λ bytes blank. record_holds bytes c.args.line.now _ _ _ c.in-Record.is (c.are_blank.ensures bytes blank)
