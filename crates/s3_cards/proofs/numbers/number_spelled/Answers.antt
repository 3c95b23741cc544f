use Rattle.std.proofs.Common.{◌≡◌, true, get_or, arith}
use Rattle.s3_cards.specs.Numbers.{is_digit_from}
use Rattle.s3_cards.proofs.NumberLemmas.{number_next}
use Rattle.s3_cards.proofs.numbers.number_spelled.Goals as goal

pub loop-code-preserved : goal.loop-code-preserved
loop-code-preserved c =
    let good : is_digit_from c.args.zero (get_or c.args.digits.now c.loop-code.code-index 0) ≡ true = cc in
    number_next _ _ _ _ _ c.loop-code.invariant (omega arith) good c.from.ensures
