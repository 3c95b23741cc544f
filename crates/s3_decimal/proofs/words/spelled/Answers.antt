use Rattle.s3_decimal.proofs.WordLemmas.{tens_of_word}
use Rattle.s3_decimal.proofs.words.spelled.Goals as goal

pub returns : goal.returns
returns c = λ ds eight all is. tens_of_word c.args.digits ds eight all is
